-- What the answers say, in the words of the definitions. Assumes nothing.
use Rattle.std.specs.Prelude.{Result}
use Rattle.refusal.specs.Out.{Out}
use Rattle.refusal.specs.Said.{said}
use Rattle.refusal.specs.declared.Refusal.{Refusal}
use Rattle.header.specs.declared.Header.{Header}

abbrev pub said_read : Result Header Refusal → Out Header
said_read = said (λ h. h)

abbrev pub said_written : Result (Unit {0}) Refusal → Out (Unit {0})
said_written = said (λ u. u)
