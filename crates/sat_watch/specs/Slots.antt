-- How clauses lie in their slots.
use Rattle.std.specs.Prelude.{◌≡◌, ℕ, ◌<◌, ◌^◌, Bool, List, length}
use Rattle.sat_watch.specs.declared.tag.Tag.{Tag}

-- each slot has a clause, a bit and a tag
pub record AreSlots (clauses : List (List ℕ)) (live : List Bool) (tags : List Tag) : Type 0 where
  pub live_len : length live ≡ length clauses
  pub tags_len : length tags ≡ length clauses
  pub small : length clauses < 2 ^ 32
