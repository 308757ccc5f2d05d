-- What a text begins with.
use Rattle.std.specs.Prelude.{◌≡◌, ℕ, ◌<◌, true, List, ◌++◌, length, encode_utf8_all}
use Rattle.std.specs.List.{list_all}
use Rattle.std.specs.Str.{IsUtf8}
use Rattle.nf_counts.specs.Counts.{HasValue, unassigned_in, unassigned_by}
use Rattle.nf_counts.specs.declared.piece.Piece.{Piece}
use Rattle.nf_forms.specs.Forms.{decomposed}
use Rattle.nf_forms.specs.Properties.{Properties}
use Rattle.nf_forms.specs.Sound.{is_sound}
use Rattle.nf_forms.specs.declared.form.Form.TheVariants.{Nfkd}

-- the text begins with these characters
pub record BeginsWith (text chars : List ℕ) (len : ℕ) : Type 0 where
  pub rest : List ℕ
  pub split : text ≡ encode_utf8_all chars ++ rest
  pub rest_utf8 : IsUtf8 rest
  pub is_long : len ≡ length (encode_utf8_all chars)

-- they are sound, and their compatibility decomposition has this value, as have the unassigned of them
pub record IsPiece (p : Properties) (text : List ℕ) (piece : Piece) : Type 0 where
  pub chars : List ℕ
  pub begins : BeginsWith text chars piece.len
  pub some : 0 < piece.len
  pub within : piece.value < 16
  pub sound : list_all (is_sound p) chars ≡ true
  pub unassigned : unassigned_in p chars ≡ unassigned_by piece.value
  pub row : HasValue p (decomposed Nfkd p chars) piece.value
