-- A place in a text whose front, up to there, is a span.
use Rattle.std.specs.Prelude.{◌≡◌, ◌<◌, ◌≤◌, ◌+◌, ◌-◌, ◌==◌, if◌then◌else◌, ℕ, false, List, ◌∷◌, ◌++◌, chars, drop, length, IsUtf8, IfSome}
use Rattle.nf_forms.specs.declared.form.Form.{Form}
use Rattle.nf_forms.specs.declared.form.Form.TheVariants.{Nfc, Nfd, Nfkc, Nfkd}
use Rattle.nf_forms.specs.Span.{IsSpan}
use Rattle.nf_forms.specs.Ucd.{ucd}
use Rattle.nf_span.specs.Going.{goes_on}
use Rattle.nf_entry.specs.Entry.{IsOfFirst}
use Rattle.nf_span.specs.declared.scan.Scan.{Scan}
use Rattle.nf_span.specs.declared.scan.End.{End}

-- the form of a number
abbrev pub form_of : ℕ → Form
form_of n = if n == 0 then Nfc else (if n == 1 then Nfd else (if n == 2 then Nfkc else Nfkd))

pub record Reaches (f : Form) (text : List ℕ) (scan : Scan) : Type 0 where
  pub front : List ℕ
  pub split : text ≡ front ++ scan.rest.now
  pub front_utf8 : IsUtf8 front
  pub rest_utf8 : IsUtf8 scan.rest.now
  pub span : IsSpan ucd f (chars front) scan.marks.class scan.marks.count

-- and what is known of the character that comes next
pub record ReachesEnd (f : Form) (text : List ℕ) (end : End) : Type 0 where
  pub reaches : Reaches f text end.scan
  pub next : IfSome end.next (IsOfFirst end.scan.rest.now)

-- one character of 1 to 4 bytes stands before it
pub record IsAfterCharacter (whole rest : List ℕ) : Type 0 where
  pub shorter : length rest < length whole
  pub few : length whole ≤ length rest + 4
  pub after : rest ≡ drop (length whole - length rest) whole

-- the character after it, if there is one, is not known to go on
abbrev pub Ends : Form → Scan → Type 0
Ends f scan = (c : ℕ) (more : List ℕ) → chars scan.rest.now ≡ c ∷ more → goes_on f scan.marks.class scan.marks.count c ≡ false
