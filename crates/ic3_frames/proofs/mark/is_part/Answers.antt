use Rattle.ic3_frames.proofs.MarkLemmas.{told_by_marks}
use Rattle.ic3_frames.proofs.mark.is_part.Goals as goal

pub returns-else-part_mark-whole_mark : goal.returns-else-part_mark-whole_mark
returns-else-part_mark-whole_mark c =
    told_by_marks c.args.part.now c.args.whole.now c.args.part_mark c.args.whole_mark c.requires.part c.requires.whole c.if-part_mark-whole_mark.false
