-- the file is found among those that are left, or nowhere
use Rattle.std.proofs.Common.{◌≡◌, drop}
use Rattle.ja_outside.specs.Files.{files_of}
use Rattle.ja_outside.specs.InMemory.{file_of}
use Rattle.ja_outside.proofs.files.place_of.Given as goal

abbrev pub invariant-loop-place : goal.invariant-loop-place
invariant-loop-place l = file_of (files_of (drop l.place l.files)) l.name ≡ file_of (files_of l.files) l.name
