-- A reading is what `specs/Reads.antt` says, and nothing else is.
use Rattle.nf_utf8.proofs.Common.{◌≡◌, ℕ, ◌+◌, List, [], length, sym, ap, ◌∙◌, arith, append-nil, length-append, take_all, add-one, nil_from_length, Ending, Whole, Bad, Cut, text_len, text_of, rest_of, begun_len, ending_of}
use Rattle.nf_utf8.specs.Reads.{IsLongestText, EndsAs, Reads}
use Rattle.nf_utf8.proofs.BegunLen.{begun_len-longest, begun_len-is, begun_all, begins_all, begins_until, ending_of-full, ending_of-begun, ending_of-ill_formed, Says, ending_of-says}
use Rattle.nf_utf8.proofs.ReadingLemmas.{text_of-encodes, text_of-IsText, text_of-split, length-encodes-text_of, encodes-text_of}

-- ---- what is read is so

pub ending_of-is : (bytes : List ℕ) → EndsAs bytes (text_of bytes) (ending_of bytes)
ending_of-is bytes = by (ending_of bytes) (ending_of-says bytes)
  where
    by : (ending : Ending) → Says bytes ending → EndsAs bytes (text_of bytes) ending
    by Whole e = rw (encodes-text_of bytes) (sym (take_all (text_len bytes) bytes (omega arith)))
    by (Cut at start) e = (record { end = e.2; more = omega (arith, e, length-encodes-text_of bytes); begins = begins_all bytes e.1 }, rw (length-encodes-text_of bytes) e.3)
    by (Bad at start) e =
        let h = begun_len-longest bytes in (
          record { inside = omega (arith, e); before = rw e.1 h.holds; here = λ b. omega (arith, e.1, h.longest (at + 1) (omega (arith, e)) b) },
          rw (length-encodes-text_of bytes) e.2,
        )

pub reads : (bytes : List ℕ) → Reads bytes (text_of bytes) (ending_of bytes)
reads bytes = record {
  front = record {
    scalars = text_of-IsText bytes;
    spelled = (rest_of bytes, text_of-split bytes);
    longest = λ other rest s e. (text_of rest, ap text_of e ∙ text_of-encodes other rest s);
  };
  end = ending_of-is bytes;
}

-- ---- and nothing else

longest_text_same : {bytes a b : List ℕ} → IsLongestText bytes a → IsLongestText bytes b → a ≡ b
longest_text_same {a = a} {b = b} p q =
    let more = q.longest a p.spelled.0 p.scalars p.spelled.1 in
    let less = p.longest b q.spelled.0 q.scalars q.spelled.1 in
    let none : more.0 ≡ [] = nil_from_length more.0 (omega (arith, ap length more.1, ap length less.1, length-append a more.0, length-append b less.0)) in
    sym (rw (none, append-nil) at more.1)

only_ending : (bytes : List ℕ) (ending : Ending) → EndsAs bytes (text_of bytes) ending → ending ≡ ending_of bytes
only_ending bytes Whole e = sym (ending_of-full bytes (sym (rw (length-encodes-text_of bytes) at (ap length e))))
only_ending bytes (Cut at start) e =
    rw (e.0.end, e.1, length-encodes-text_of bytes) (sym (ending_of-begun bytes (omega (arith, length-encodes-text_of bytes, e.0.more, e.0.end)) (begun_all bytes e.0.begins)))
only_ending bytes (Bad at start) e =
    let begun : begun_len bytes ≡ at = begun_len-is (begins_until bytes at e.0.inside e.0.before (λ h. e.0.here (rw add-one h))) in
    rw (e.1, length-encodes-text_of bytes, ← begun) (sym (ending_of-ill_formed bytes (omega (arith, begun, e.0.inside))))

pub reads_only : (bytes text : List ℕ) (ending : Ending) → Reads bytes text ending → (text ≡ text_of bytes) × (ending ≡ ending_of bytes)
reads_only bytes text ending r =
    let same = longest_text_same r.front (reads bytes).front in
    (same, only_ending bytes ending (rw same at r.end))
