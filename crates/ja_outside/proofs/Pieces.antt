-- Files that are read, and bytes that are written, in pieces.
use Rattle.std.proofs.Common.{ℕ, ◌+◌, ◌<◌, ◌≤◌, List, ◌++◌, length, take, drop, Option, Some, None, sym, ap, ◌∙◌, append_assoc, length-append, length-take-le, arith}
use Rattle.std.proofs.Math.Seq.{take-add}
use Rattle.ja_outside.specs.Shelf.{Held, IsTaken, Moves, TakesOver, TakesWithin}
use Rattle.ja_outside.specs.Sink.{Appends}

-- a piece more was taken
pub IsTaken-more : (held : Held) (name taken buf : List ℕ) (n : ℕ) (before after : Option (List ℕ))
    → IsTaken held name taken before → Moves before after n buf → IsTaken held name (taken ++ take n buf) after
IsTaken-more None name taken buf n before after t m = tt
IsTaken-more (Some file_of) name taken buf n None after t m = absurd t
IsTaken-more (Some file_of) name taken buf n (Some file) None t m = absurd m
IsTaken-more (Some file_of) name taken buf n (Some file) (Some rest) t m =
    t ∙ ap (λ left. Some (taken ++ left)) m.0 ∙ ap Some (sym (append_assoc taken (take n buf) rest))

-- with a piece more, more than so many bytes were taken
pub TakesOver-more : (held : Held) (name taken buf : List ℕ) (n limit : ℕ) (before after : Option (List ℕ))
    → IsTaken held name taken before → Moves before after n buf → n ≤ length buf → limit < length taken + n
    → TakesOver held name after limit
TakesOver-more held name taken buf n limit before after t m h over = (
  taken ++ take n buf,
  omega (arith, length-append taken (take n buf), length-take-le n buf h),
  IsTaken-more held name taken buf n before after t m,
)

-- with a piece more, at most so many bytes were taken
pub TakesWithin-more : (held : Held) (name taken buf : List ℕ) (n limit : ℕ) (before after : Option (List ℕ))
    → IsTaken held name taken before → Moves before after n buf → n ≤ length buf → length taken + n ≤ limit
    → TakesWithin held name after limit
TakesWithin-more held name taken buf n limit before after t m h within = (
  taken ++ take n buf,
  omega (arith, length-append taken (take n buf), length-take-le n buf h),
  IsTaken-more held name taken buf n before after t m,
)

-- a piece more was appended
pub Appends-more : (bytes : List ℕ) (done n : ℕ) (start before after : Option (List ℕ)) → Appends start before (take done bytes)
    → Appends before after (take n (drop done bytes)) → Appends start after (take (done + n) bytes)
Appends-more bytes done n None before after a b = tt
Appends-more bytes done n (Some xs) before after a b =
    let appended = rw a at b in
    appended ∙ ap Some (append_assoc xs (take done bytes) (take n (drop done bytes))
    ∙ ap (λ front. xs ++ front) (sym (take-add done n bytes)))
