use Rattle.std.proofs.Common.{◌≡◌, ◌≤◌, length, take}
use Rattle.sat_cdcl.specs.Files.{list_of, IsRooted}
use Rattle.sat_cdcl.proofs.database.Database.cut.Given as goal

abbrev pub invariant-loop-self : goal.invariant-loop-self
invariant-loop-self l =
    record {
      trail : l.self.watched.trail ≡ l.initial.self.watched.trail;
      within : l.to ≤ length l.self.slots;
      slots : l.self.slots ≡ take (length l.self.slots) l.initial.self.slots;
      list : list_of l.self ≡ take (length l.self.slots) (list_of l.initial.self);
      rooted : IsRooted l.to l.self;
    }

abbrev pub decreases-loop-self : goal.decreases-loop-self
decreases-loop-self l = length l.self.slots
