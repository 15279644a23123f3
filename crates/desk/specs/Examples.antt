-- An opening for tests.
use Rattle.std.specs.Prelude.{true, None, [], ◌∷◌}
use Rattle.store_core.specs.declared.journal.Opening.{Opening}

-- two properties, drawn in order, both expected to hold; the first failure may stop the run, and there is no limit
abbrev pub two_opened : Opening
two_opened =
    record { plan = 0 ∷ 1 ∷ []; assumed = true ∷ true ∷ []; fail_fast = true; limit = None }
