use Rattle.std.proofs.Common.{◌≡◌, ℕ, zero, suc, ◌<◌, true, List, [], ◌∷◌, length, get_or, drop, bytes_eq, String, string_bytes, Vec, refl, arith, rules, ◌∙◌}
use Rattle.std.specs.declared.alloc.Global.{Global}
use Rattle.ja_outside.specs.Files.{files_of, content_at}
use Rattle.ja_outside.specs.InMemory.{file_of}
use Rattle.ja_outside.proofs.files.place_of.Goals as goal

-- a file of this name is the first one among those from its place on
content_at-named : (files : List (String Global × Vec ℕ Global)) (name : List ℕ) (k : ℕ) (file : String Global × Vec ℕ Global)
    → k < length files → file ≡ get_or files k file → bytes_eq (string_bytes file.0) name ≡ true
    → content_at files k ≡ file_of (files_of (drop k files)) name
content_at-named [] name k file h e t = absurd (omega arith)
content_at-named (f ∷ fs) name zero file h e t = let same = rw e at t in rw same refl
content_at-named (f ∷ fs) name (suc k) file h e t = content_at-named fs name k file (omega arith) e t

pub returns-then-eq-clause-found : goal.returns-then-eq-clause-found
returns-then-eq-clause-found c =
    content_at-named c.args.files.now c.args.name.now c.loop-place.place c.index-files-place.result
    (omega arith) c.index-files-place.is (search rules) ∙ c.loop-place.invariant
