-- `script::session::Session::new` meets its contract.
use mathlib.Core.Path.{refl, ap, ◌∙◌}
use Rattle.store.specs.State.{closed, with_mode, with_queue}
use Rattle.script.specs.Transcript.{beginning}
use Rattle.script.proofs.session.Session.new.Goals as goal

pub returns : goal.returns
unfolding beginning
returns c = (c.with_queue-rec.ensures ∙ ap (with_queue 0 0) (c.with_mode.ensures ∙ ap (with_mode closed) c.fresh.ensures), refl, refl)
