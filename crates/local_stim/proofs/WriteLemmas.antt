-- What is written of a stimulus spells it.
use Rattle.std.proofs.Common.{ℕ, inl, Bool, true, false, List, [], ◌∷◌, map, refl, append_assoc}
use Rattle.std.specs.List.{flat_map}
use Rattle.std.specs.Fmt.{decimal}
use Rattle.ja_base.specs.Runs.{Trace}
use Rattle.ja_text.proofs.DecimalLemmas.{decimal_is_number}
use Rattle.aig_model.specs.Netlist.{Netlist}
use Rattle.local_stim.specs.StimulusText.{IsBit, IsRowText, AreRowLines, IsStimulusText, bit_character, row_line, stimulus_text, Suits, IsWithinLimits}

character_is_bit : (b : Bool) → IsBit (bit_character b) b
character_is_bit true = refl
character_is_bit false = inl refl

written_row : (row : List Bool) → IsRowText (map bit_character row) row
written_row [] = tt
written_row (b ∷ bs) = (character_is_bit b, written_row bs)

written_rows : (rows : List (List Bool)) → AreRowLines (flat_map row_line rows) rows
written_rows [] = refl
written_rows (row ∷ rows) = (
  map bit_character row,
  flat_map row_line rows,
  written_row row,
  append_assoc (map bit_character row) (10 ∷ []) (flat_map row_line rows),
  written_rows rows,
)

pub written : (d : Netlist) (p : ℕ) (m : Trace) → Suits d p m → IsWithinLimits p m → IsStimulusText d (stimulus_text p m) p m
written d p m suits limits = record {
  number = decimal p;
  first = map bit_character m.first;
  rows = flat_map row_line m.inputs;
  after = 10 ∷ [];
  bytes_are = refl;
  ends = refl;
  property = decimal_is_number p limits.number;
  known = suits.property;
  first_row = written_row m.first;
  latches = suits.first;
  input_rows = written_rows m.inputs;
  inputs = suits.rows;
  some = suits.some;
  most = limits.most;
  small = limits.small;
}
