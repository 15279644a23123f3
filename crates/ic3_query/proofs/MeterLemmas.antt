-- Meter and flag over several calls.
use Rattle.std.proofs.Common.{◌≡◌, ℕ, ◌+◌, ◌*◌, Bool, ◌∙◌, arith}
use Rattle.ja_base.specs.declared.meter.Meter.{Meter}
use Rattle.ja_outside.specs.Flags.{IsPolled}
use Rattle.sat_plain.specs.Ticks.{IsLater, TicksAtMost}

pub later_then : (a b c : Meter) → IsLater a b → IsLater b c → IsLater a c
later_then a b c g h = record {
  limit = h.limit ∙ g.limit;
  spent = omega (arith, g.spent, h.spent);
  refused = omega (arith, g.refused, h.refused);
}

one_more : (n q : ℕ) → n * q + q ≡ (n + 1) * q
one_more n q = grind arith

pub ticks_more : (a b c : Meter) (n q : ℕ) → TicksAtMost a b (n * q) → TicksAtMost b c q → TicksAtMost a c ((n + 1) * q)
ticks_more a b c n q g h = omega (arith, g, h, one_more n q)

pub polled_then : {T : Type 0} (may : T → Bool) (raised : T → ℕ) (a b c : T) → IsPolled may raised a b → IsPolled may raised b c
    → IsPolled may raised a c
polled_then may raised a b c g h = record { kept = h.kept ∙ g.kept; later = omega (arith, g.later, h.later) }
