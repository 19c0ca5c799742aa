-- The exit of a `?`: the refusal is handed on. Assumes nothing.
use mathlib.Core.Path.{◌≡◌, ap, ◌∙◌}
use Rattle.std.specs.Prelude.{Result, Err, IsErrAnd}
use Rattle.std.proofs.lemmas.Result.{err_from_is_err_and}
use Rattle.refusal.specs.declared.Refusal.{Refusal}

pub handed : {A : Type 0} (r : Result A Refusal) (x : Refusal) → IsErrAnd r (λ e. e ≡ x) → r ≡ Err x
handed r x h = let p = err_from_is_err_and r h in p.1 ∙ ap Err p.2
