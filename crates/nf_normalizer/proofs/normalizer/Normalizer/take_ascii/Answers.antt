use Rattle.nf_normalizer.proofs.Common.{◌≡◌, ◌-◌, [], ◌∷◌, length, take, get_or, refl, ap, ◌∙◌, arith, encode_utf8_all, length-take, get_or-drop, IsUtf8-from_ascii, IsCharBoundary-from_take}
use Rattle.nf_normalizer.proofs.PushingLemmas.{Holds-more}
use Rattle.nf_normalizer.proofs.AsciiLemmas.{joins-run, settled_text-run, HasTaken-run}
use Rattle.nf_normalizer.proofs.normalizer.Normalizer.take_ascii.Goals as goal

pub split_at-requires : goal.split_at-requires
split_at-requires g c = IsCharBoundary-from_take c.args.text.now c.args.len c.utf8.text c.requires.inside (IsUtf8-from_ascii (take c.args.len c.args.text.now) c.requires.ascii)

pub returns-clause-takes : goal.returns-clause-takes
returns-clause-takes g c = λ f x start before alone holds.
    let plain = before.plain c.requires.plain in
    let y = take c.args.len c.args.text.now in
    let len : length y ≡ c.args.len = omega (arith, length-take c.args.len c.args.text.now, c.requires.inside) in
    let text = settled_text-run _ plain f x y c.args.len len c.requires.some c.requires.ascii before.usable c.args.starter alone c.requires.starter in
    let last : c.from.result ≡ get_or y (c.args.len - 1) 0 = rw (c.from.ensures, c.as_bytes.ensures.value, c.split_at-2.ensures.back, c.split_at.ensures.front) (get_or-drop (c.args.len - 1) y 0 0 ∙ ap (λ i. get_or y i 0) (omega arith)) in
    record {
      inside = record {
        taken = HasTaken-run _ plain f x y c.args.len len c.requires.some c.requires.ascii before.usable c.args.starter alone c.requires.starter
            c.args.self.now c.new-self.result c.stand_at.new.self c.from.result before c.new-self.ensures.count last (λ w v. c.stand_at.ensures.stands f _ w v);
        holds = rw (← text, c.split_at-2.ensures.front, c.split_at.ensures.front) (Holds-more (take (c.args.len - 1) y) refl (Holds-more (encode_utf8_all (c.args.starter ∷ [])) c.put_utf8.ensures.text holds));
      };
      joins = joins-run _ plain f x y c.args.len len c.requires.some c.requires.ascii before.usable;
    }
