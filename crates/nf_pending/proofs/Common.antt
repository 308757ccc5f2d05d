-- The names that most of these proofs cite, passed on from one place. Declares nothing.
pub use Rattle.std.proofs.Common.{◌≡◌, ℕ, Bool, true, false, leb, List, [], ◌∷◌, ◌++◌, length, Option, Some, None, refl, sym, ap, ◌∙◌, arith, append_assoc, map, length-append, rules}
pub use Rattle.std.proofs.lemmas.Bool.{ne_eqb, eqb-true}
pub use Rattle.std.specs.Prelude.{IfSome, insert, is_some, is_none, unwrap_or, if◌then◌else◌}
pub use Rattle.nf_forms.specs.Forms.{composes, finished}
pub use Rattle.nf_forms.specs.Laws.Front.{front-append-back, marks_push}
pub use Rattle.nf_forms.specs.Laws.Settling.{closed_off, closed_off-group, next_composite, next_composite-none, settled_by, front-push_starter, back-push_starter, front-after, back-after, back-starter, back-empty, has_starter-head, front-append, length-back}
pub use Rattle.nf_pending.specs.Laws.Standing.{run_len-trail}
