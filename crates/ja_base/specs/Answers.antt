-- Words on answers that refuse what was given, or want memory.
use Rattle.std.specs.Prelude.{⊤, Result, Ok, Err}
use Rattle.ja_base.specs.declared.memory.OrMemory.{OrMemory}
use Rattle.ja_base.specs.declared.memory.OrMemory.TheVariants.{Refused, Memory}

-- the fact holds of the refusal, if there is one
abbrev pub IfRefused : {T R : Type 0} → Result T (OrMemory R) → (R → Type 0) → Type 0
IfRefused (Ok x) P = ⊤
IfRefused (Err (Refused r)) P = P r
IfRefused (Err Memory) P = ⊤
