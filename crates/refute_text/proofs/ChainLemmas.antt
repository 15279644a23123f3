-- One form after another, where no bytes begin with two of the form.
use Rattle.std.proofs.Common.{◌≡◌, List, ℕ, [], ◌∷◌, ◌++◌, refl, sym, ap, subst, ◌∙◌, append_assoc}
use Rattle.std.specs.List.{AllByRecursion, flat_map}
use Rattle.std.proofs.lemmas.List.Concat.{flat_map-cons}
use Rattle.ja_text.specs.Repeated.{Chain}
use Rattle.refute_text.specs.Reading.{TakesNone, TakesAll}

module _ {X : Type 0} (Takes : List ℕ → X → List ℕ → Type 0) where
  -- no bytes begin with two of the form
  abbrev pub IsOne : Type 0
  IsOne = (s : List ℕ) (x : X) (t : List ℕ) (y : X) (u : List ℕ) → Takes s x t → Takes s y u → (x ≡ y) × (t ≡ u)

  -- one more is taken
  pub Chain-more : (s : List ℕ) (xs : List X) (t : List ℕ) (x : X) (u : List ℕ) → Chain Takes s xs t → Takes t x u
      → Chain Takes s (xs ++ x ∷ []) u
  Chain-more s [] t x u c p = (u, subst (λ (v : List ℕ). Takes v x u) (sym c) p, refl)
  Chain-more s (y ∷ ys) t x u c p = (c.0, c.1, Chain-more c.0 ys t x u c.2 p)

  chains_agree : IsOne → (s : List ℕ) (xs : List X) (t : List ℕ) (ys : List X) (u : List ℕ) → Chain Takes s xs t
      → TakesNone Takes t
      → Chain Takes s ys u → TakesNone Takes u → (xs ≡ ys) × (t ≡ u)
  chains_agree one s [] t [] u c d e f = (refl, sym c ∙ e)
  chains_agree one s [] t (y ∷ ys) u c d e f = absurd (d y e.0 (subst (λ (v : List ℕ). Takes v y e.0) c e.1))
  chains_agree one s (x ∷ xs) t [] u c d e f = absurd (f x c.0 (subst (λ (v : List ℕ). Takes v x c.0) e c.1))
  chains_agree one s (x ∷ xs) t (y ∷ ys) u c d e f =
      let first = one s x c.0 y e.0 c.1 e.1 in
      let behind : Chain Takes c.0 ys u = subst (λ (v : List ℕ). Chain Takes v ys u) (sym first.1) e.2 in
      let others = chains_agree one c.0 xs t ys u c.2 d behind f in
      (ap (λ (z : X). z ∷ xs) first.0 ∙ ap (λ (zs : List X). y ∷ zs) others.0, others.1)

  -- what stands at the front is determined, and what follows it too
  pub all_agree : IsOne → (s : List ℕ) (xs : List X) (t : List ℕ) (ys : List X) (u : List ℕ) → TakesAll Takes s xs t
      → TakesAll Takes s ys u → (xs ≡ ys) × (t ≡ u)
  all_agree one s xs t ys u c d = chains_agree one s xs t ys u c.taken c.ends d.taken d.ends

  -- the bytes that are taken are the texts, one behind the other
  pub Chain-spelled : (text : X → List ℕ) → ((s : List ℕ) (x : X) (t : List ℕ) → Takes s x t → s ≡ text x ++ t)
      → (s : List ℕ) (xs : List X) (t : List ℕ) → Chain Takes s xs t → s ≡ flat_map text xs ++ t
  Chain-spelled text each s [] t c = c
  Chain-spelled text each s (x ∷ xs) t c =
      each s x c.0 c.1 ∙ ap (λ (v : List ℕ). text x ++ v) (Chain-spelled text each c.0 xs t c.2)
      ∙ sym (append_assoc (text x) (flat_map text xs) t)
      ∙ ap (λ (v : List ℕ). v ++ t) (sym (flat_map-cons text x xs))

  -- each that is taken is good
  pub Chain-good : (Good : X → Type 0) → ((s : List ℕ) (x : X) (t : List ℕ) → Takes s x t → Good x)
      → (s : List ℕ) (xs : List X) (t : List ℕ) → Chain Takes s xs t → AllByRecursion Good xs
  Chain-good Good each s [] t c = tt
  Chain-good Good each s (x ∷ xs) t c = (each s x c.0 c.1, Chain-good Good each c.0 xs t c.2)

-- the text of the first, and behind it those of the others
pub regroup : {X : Type 0} (text : X → List ℕ) (x : X) (xs : List X) (rest : List ℕ)
    → flat_map text (x ∷ xs) ++ rest ≡ text x ++ (flat_map text xs ++ rest)
regroup text x xs rest = ap (λ (v : List ℕ). v ++ rest) (flat_map-cons text x xs) ∙ append_assoc (text x) (flat_map text xs) rest
