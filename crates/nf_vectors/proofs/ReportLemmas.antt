-- A report of one row more.
use Rattle.nf_vectors.proofs.Common.{◌≡◌, ◌+◌, cond, List, [], ◌∷◌, ◌++◌, Option, None, refl, arith, option_or, length_push, sum_by_push, Properties, Failure, VectorRow, verdict_of, is_skip, is_pass, is_failure, failure_or, first_failure_of, report_of, report_and}
use Rattle.nf_vectors.specs.declared.report.Report.{Report}
use Rattle.nf_vectors.specs.declared.report.Verdict.{Verdict}

pub or_none : {T : Type 0} (o : Option T) → option_or o None ≡ o
or_none o = grind arith

module _ (p : Properties) where
  first_failure-push : (rows : List VectorRow) (row : VectorRow) → first_failure_of p (rows ++ row ∷ []) ≡ option_or (first_failure_of p rows) (failure_or (verdict_of p row) None)
  first_failure-push [] row = refl
  first_failure-push (first ∷ rows) row = rw (first_failure-push rows row) (next (verdict_of p first) _ _)
    where
      next : (v : Verdict) (a b : Option Failure) → failure_or v (option_or a b) ≡ option_or (failure_or v a) b
      next v a b = grind arith

  pub report_of-push : (rows : List VectorRow) (row : VectorRow) → report_of p (rows ++ row ∷ []) ≡ report_and (report_of p rows) (verdict_of p row)
  unfolding report_of
  report_of-push rows row = simp (length_push, sum_by_push, first_failure-push) (next (verdict_of p row) (report_of p rows))
    where
      next : (v : Verdict) (r : Report)
          → ◌≡◌ {A = Report} (record {
            rows = r.rows + 1;
            passed = r.passed + cond (is_pass v) 1 0;
            failed = r.failed + cond (is_failure v) 1 0;
            skipped = r.skipped + cond (is_skip v) 1 0;
            first_failure = option_or r.first_failure (failure_or v None);
          }) (report_and r v)
      next v r = grind (arith, or_none)

pub and-counts : (report : Report) (v : Verdict) → let new = report_and report v in
    (new.rows ≡ report.rows + 1) × (report.rows ≡ report.passed + report.failed + report.skipped → new.rows ≡ new.passed + new.failed + new.skipped)
and-counts report v = grind arith
