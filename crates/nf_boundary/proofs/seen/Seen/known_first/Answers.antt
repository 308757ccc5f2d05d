use Rattle.nf_boundary.proofs.Common.{◌≡◌, ◌∷◌, ◌++◌, refl, sym, ap, ◌∙◌, chars, encode_utf8, chars_past_char}
use Rattle.nf_boundary.proofs.seen.Seen.known_first.Goals as goal

pub returns : goal.returns
returns c =
    let letter = c.in_ok-character.character in
    let text : c.args.text.now ≡ encode_utf8 letter ++ c.as_str.result.now = sym c.chars-chars.ensures.rest ∙ c.in_ok-character.ensures.steps.0 ∙ ap (λ k. encode_utf8 letter ++ k) (sym c.as_str.ensures) in
    let same : letter ∷ chars c.as_str.result.now ≡ c.requires.first ∷ c.requires.others = sym (chars_past_char _ _ _ c.utf8.text text) ∙ c.requires.begins in
    let known = c.requires.is_entry in
    (refl, record { text = text; text_utf8 = c.utf8.text; known = cc })
