-- What an answer says, in the words of the definitions. Assumes nothing.
use Rattle.std.specs.Prelude.{Result, Ok, Err}
use Rattle.refusal.specs.Out.{Out, ok, bad}
use Rattle.refusal.specs.Number.{number_of}
use Rattle.refusal.specs.declared.Refusal.{Refusal}

-- the value, as f sees it, or the refusal's number
abbrev pub said : {A B : Type 0} → (A → B) → Result A Refusal → Out B
said f (Ok a) = ok (f a)
said f (Err r) = bad (number_of r)
