use Rattle.std.proofs.Common.{refl}
use Rattle.nf_span.proofs.WindowLemmas.{window_past}
use Rattle.nf_span.proofs.window.Window.past.Goals as goal

pub returns : goal.returns
returns c f bytes here = window_past f bytes c.args.self here c.args.len _ refl refl
