-- Line after line: what is read of them, they say, and what they say is read.
use Rattle.std.proofs.Common.{◌≡◌, ◌≢◌, ℕ, ◌+◌, ◌<◌, ◌⊎◌, ◌↔◌, inl, inr, Bool, true, false, not, cond, ltb, List, [], ◌∷◌, length, set, get_or, Ok, Err, refl, sym, ap, subst, ◌∙◌, arith, ltb-true, lt-ltb, length-set}
use Rattle.std.specs.Prelude.{All, AllPairs, Contains, ok_or}
use Rattle.std.proofs.lemmas.List.Elements.{All-nil, All-cons, All-head, All-tail}
use Rattle.ja_base.specs.Literals.{bit}
use Rattle.ja_text.specs.Reading.{◌>>=◌}
use Rattle.ja_text.proofs.ReadingLemmas.{bind_ok, ok_or_ok, ok_is}
use Rattle.expect_file.specs.declared.line.Entry.{Entry}
use Rattle.expect_file.specs.declared.found.Found.{Found}
use Rattle.expect_file.specs.declared.refusal.ExpectRefusal.{ExpectRefusal}
use Rattle.expect_file.specs.declared.refusal.ExpectRefusal.TheVariants.{Line, Unknown, Twice}
use Rattle.expect_file.specs.ExpectationsText.{IsRemark, Says, AreEntries}
use Rattle.expect_file.specs.ExpectationsReading.{is_remark, entry_of, with_entry, entry_taken, line_read, lines_read}
use Rattle.expect_file.proofs.EntryLemmas.{remark_takes, remark_again, entry_takes, entry_again, entry_is_no_remark}
use Rattle.expect_file.proofs.BitLemmas.{Contains-cases, Contains-first, Contains-others, nothing_in_none, AllPairs-none, AllPairs-cons, AllPairs-first, AllPairs-others, unset, unset_again, cleared_takes, cleared_again}

-- there is a bit for each of so many properties
pub record IsSized (count : ℕ) (found : Found) : Type 0 where
  pub named : length found.named ≡ count
  pub expect : length found.expect ≡ count

with_entry_sized : (count : ℕ) (found : Found) (entry : Entry) → IsSized count found → IsSized count (with_entry found entry)
with_entry_sized count found entry sized =
    record {
      named = length-set found.named entry.property true ∙ sized.named;
      expect = cleared_length entry.holds
          ∙ sized.expect;
    }
  where
    cleared_length : (stays : Bool)
        → length (cond stays found.expect (set found.expect entry.property false)) ≡ length found.expect
    cleared_length true = refl
    cleared_length false = length-set found.expect entry.property false

-- ---- what the entries change

-- two entries are of different properties
abbrev pub Differ : Entry → Entry → Type 0
Differ e f = e.property ≢ f.property

-- a property is expected to fail as before, and where an entry says so
abbrev pub Fails : ℕ → List Bool → List Entry → List Bool → Type 0
Fails count before entries after = (i : ℕ) → i < count
    → (bit after i ≡ false) ↔ ((bit before i ≡ false) ⊎ Contains entries (record { property = i; holds = false }))

Fails-none : (count : ℕ) (before : List Bool) → Fails count before [] before
Fails-none count before i within = (
  λ h. inl h,
  λ h. elim h [
    | inl same ↦ same
    | inr in_none ↦ absurd
        (nothing_in_none (record { property = i; holds = false }) in_none)
  ],
)

is_entry : (entry : Entry) (i : ℕ) → (entry.property ≡ i) × (entry.holds ≡ false) → entry ≡ record { property = i; holds = false }
is_entry entry i h = ap (λ (p : ℕ). record { property = p; holds = entry.holds }) h.0
    ∙ ap (λ (b : Bool). record { property = i; holds = b }) h.1

Fails-more : (count : ℕ) (found : Found) (entry : Entry) (others : List Entry) (after : List Bool) → IsSized count found
    → entry.property < count → Fails count (with_entry found entry).expect others after
    → Fails count found.expect (entry ∷ others) after
Fails-more count found entry others after sized known behind i within =
    let x : Entry = record { property = i; holds = false } in (
      λ h. elim ((behind i within).0 h) [
        | inl cleared ↦ elim
            (cleared_takes entry.holds found.expect entry.property i cleared) [
              | inl old ↦ inl old
              | inr said ↦ inr
                  (Contains-first entry x others (is_entry entry i said))
            ]
        | inr in_others ↦ inr (Contains-others entry x others in_others)
      ],
      λ h. (behind i within).1 (elim h [
        | inl old ↦ inl (cleared_again entry.holds found.expect entry.property i (omega (arith, sized.expect)) (inl old))
        | inr in_all ↦ elim (Contains-cases entry x others in_all) [
          | inl same ↦ inl (cleared_again entry.holds found.expect entry.property i (omega (arith, sized.expect))
              (inr (ap (λ (e : Entry). e.property) same, ap (λ (e : Entry). e.holds) same)))
          | inr in_others ↦ inr in_others
        ]
      ]),
    )

-- ---- what is read, the lines say

-- the lines say these entries, each of a property that was not named before, and they lead from found to next
pub record Adds (count : ℕ) (found : Found) (lines : List (List ℕ)) (next : Found) : Type 0 where
  pub entries : List Entry
  pub says : AreEntries lines entries
  pub known : All (λ e. e.property < count) entries
  pub once : AllPairs Differ entries
  pub new : All (λ e. bit found.named e.property ≡ false) entries
  pub sized : IsSized count next
  pub fails_are : Fails count found.expect entries next.expect

-- an entry was taken
record Takes (found : Found) (entry : Entry) (next : Found) : Type 0 where
  known : entry.property < length found.named
  new : bit found.named entry.property ≡ false
  next_is : with_entry found entry ≡ next

taken : (t u : Bool) (number : ℕ) (found : Found) (entry : Entry) (next : Found) → ltb entry.property (length found.named) ≡ t
    → bit found.named entry.property ≡ u
    → cond (not t) (Err (Unknown number)) (cond u (Err (Twice number)) (Ok (with_entry found entry))) ≡ Ok next
    → Takes found entry next
taken false u number found entry next known new h = absurd cc
taken true true number found entry next known new h = absurd cc
taken true false number found entry next known new h =
    record {
      known = ltb-true entry.property (length found.named) known;
      new = new;
      next_is = ok_is {F = ExpectRefusal}
          (with_entry found entry) next h;
    }

-- a line says nothing, or an entry that was taken
LineSays : List ℕ → Found → Found → Type 0
LineSays line found next = (IsRemark line × (found ≡ next)) ⊎ ((entry : Entry) × Says line entry × Takes found entry next)

line_step : (t : Bool) (number : ℕ) (found next : Found) (line : List ℕ) → is_remark line ≡ t
    → cond t (Ok found) (ok_or (entry_of line) (Line number) >>= λ entry. entry_taken number found entry) ≡ Ok next
    → LineSays line found next
unfolding LineSays
line_step true number found next line e h = inl (remark_takes line e, ok_is {F = ExpectRefusal} found next h)
line_step false number found next line e h =
    let entry = bind_ok (ok_or (entry_of line) (Line number)) (λ entry. entry_taken number found entry) next h in
    inr (
      entry.0,
      entry_takes line entry.0 (ok_or_ok (entry_of line) (Line number) entry.0 entry.1),
      taken (ltb entry.0.property (length found.named))
          (bit found.named entry.0.property) number found entry.0 next refl refl entry.2,
    )

line_takes : (number : ℕ) (found next : Found) (line : List ℕ) → line_read number found line ≡ Ok next → LineSays line found next
unfolding line_read
line_takes number found next line h = line_step (is_remark line) number found next line refl h

-- an entry of another property is new before where it is new behind this one
new_before : (found : Found) (entry : Entry) (others : List Entry) → entry.property < length found.named
    → All (λ e. bit (with_entry found entry).named e.property ≡ false) others
    → All (Differ entry) others × All (λ e. bit found.named e.property ≡ false) others
new_before found entry others known new = (
  λ k d within. (unset found.named entry.property (get_or others k d).property known (new k d within)).0,
  λ k d within. (unset found.named entry.property (get_or others k d).property known (new k d within)).1,
)

Adds-more : (count : ℕ) (found next last : Found) (line : List ℕ) (lines : List (List ℕ)) → IsSized count found
    → LineSays line found next → (IsSized count next → Adds count next lines last) → Adds count found (line ∷ lines) last
unfolding LineSays
Adds-more count found next last line lines sized (inl remark) behind =
    let others = subst (λ (f : Found). Adds count f lines last) (sym remark.1) (behind (subst (IsSized count) remark.1 sized)) in
    record {
      entries = others.entries;
      says = inl
          (remark.0, others.says);
      known = others.known;
      once = others.once;
      new = others.new;
      sized = others.sized;
      fails_are = others.fails_are;
    }
Adds-more count found next last line lines sized (inr said) behind =
    let entry = said.0 in
    let takes = said.2 in
    let others = subst (λ (f : Found). Adds count f lines last) (sym takes.next_is)
    (behind (subst (IsSized count) takes.next_is (with_entry_sized count found entry sized))) in
    let before = new_before found entry others.entries takes.known others.new in
    let known : entry.property < count = omega (arith, takes.known, sized.named) in
    record {
      entries = entry ∷ others.entries;
      says = inr (entry, others.entries, said.1, refl, others.says);
      known = All-cons (λ e. e.property < count) entry others.entries known others.known;
      once = AllPairs-cons Differ entry others.entries before.0 others.once;
      new = All-cons (λ e. bit found.named e.property ≡ false) entry others.entries takes.new before.1;
      sized = others.sized;
      fails_are = Fails-more count found entry others.entries last.expect sized known others.fails_are;
    }

pub lines_take : (count number : ℕ) (found last : Found) (lines : List (List ℕ)) → IsSized count found
    → lines_read number found lines ≡ Ok last → Adds count found lines last
unfolding lines_read
lines_take count number found last [] sized h =
    let same = ok_is {F = ExpectRefusal} found last h in
    subst (Adds count found []) same (record {
      entries = [];
      says = refl;
      known = All-nil (λ e. e.property < count);
      once = AllPairs-none Differ;
      new = All-nil (λ e. bit found.named e.property ≡ false);
      sized = sized;
      fails_are = Fails-none count found.expect;
    })
lines_take count number found last (line ∷ lines) sized h =
    let next = bind_ok (line_read number found line) (λ f. lines_read (number + 1) f lines) last h in
    Adds-more count found next.0 last line lines sized (line_takes number found next.0 line next.1)
    (λ s. lines_take count (number + 1) next.0 last lines s next.2)

-- ---- what the lines say is read

remark_read : (number : ℕ) (found : Found) (line : List ℕ) → IsRemark line → line_read number found line ≡ Ok found
unfolding line_read
remark_read number found line h = rw (remark_again line h) refl

entry_read : (number : ℕ) (found : Found) (line : List ℕ) (entry : Entry) → Says line entry → entry.property < length found.named
    → bit found.named entry.property ≡ false
    → line_read number found line ≡ Ok (with_entry found entry)
unfolding line_read
entry_read number found line entry says known new =
    rw (
      entry_is_no_remark line entry says,
      entry_again line entry says,
      lt-ltb entry.property (length found.named) known,
      new,
    ) refl

-- the lines are read, and lead to a last state
pub record AreRead (count number : ℕ) (found : Found) (lines : List (List ℕ)) (entries : List Entry) : Type 0 where
  pub last : Found
  pub read : lines_read number found lines ≡ Ok last
  pub sized : IsSized count last
  pub fails_are : Fails count found.expect entries last.expect

-- the entries are of properties of the design, and no two of the same, or of one that was named before
pub record AreNew (count : ℕ) (found : Found) (entries : List Entry) : Type 0 where
  pub known : All (λ e. e.property < count) entries
  pub once : AllPairs Differ entries
  pub new : All (λ e. bit found.named e.property ≡ false) entries

AreNew-others : (count : ℕ) (found : Found) (entry : Entry) (others : List Entry) → AreNew count found (entry ∷ others)
    → AreNew count (with_entry found entry) others
AreNew-others count found entry others new =
    let differ = AllPairs-first Differ entry others new.once in
    let before = All-tail (λ e. bit found.named e.property ≡ false) entry others new.new in
    record {
      known = All-tail (λ e. e.property < count) entry others new.known;
      once = AllPairs-others Differ entry others new.once;
      new = λ k d within. unset_again found.named entry.property (get_or others k d).property (differ k d within)
          (before k d within);
    }

AreRead-more : (count number : ℕ) (found next : Found) (line : List ℕ) (lines : List (List ℕ)) (entries others : List Entry)
    → line_read number found line ≡ Ok next
    → (behind : AreRead count (number + 1) next lines others) → Fails count found.expect entries behind.last.expect
    → AreRead count number found (line ∷ lines) entries
unfolding lines_read
AreRead-more count number found next line lines entries others h behind fails_are = record {
  last = behind.last;
  read = rw
      (h, behind.read) refl;
  sized = behind.sized;
  fails_are = fails_are;
}

pub lines_again : (count number : ℕ) (found : Found) (lines : List (List ℕ)) (entries : List Entry) → IsSized count found
    → AreEntries lines entries → AreNew count found entries → AreRead count number found lines entries
unfolding lines_read
lines_again count number found [] entries sized says new =
    record {
      last = found;
      read = refl;
      sized = sized;
      fails_are = subst
          (λ (es : List Entry). Fails count found.expect es found.expect) (sym says) (Fails-none count found.expect);
    }
lines_again count number found (line ∷ lines) entries sized (inl says) new =
    let behind = lines_again count (number + 1) found lines entries sized says.1 new in
    AreRead-more count number found found line lines entries entries
    (remark_read number found line says.0) behind behind.fails_are
lines_again count number found (line ∷ lines) entries sized (inr says) new =
    let entry = says.0 in
    let others = says.1 in
    let all = subst (AreNew count found) says.3 new in
    let known : entry.property < count = All-head (λ e. e.property < count) entry others all.known in
    let unnamed = All-head (λ e. bit found.named e.property ≡ false) entry others all.new in
    let next = with_entry found entry in
    let behind = lines_again count (number + 1) next lines others (with_entry_sized count found entry sized) says.4
    (AreNew-others count found entry others all) in
    let read = entry_read number found line entry says.2 (omega (arith, sized.named)) unnamed in
    AreRead-more count number found next line lines entries others read behind
    (subst (λ (es : List Entry). Fails count found.expect es behind.last.expect) (sym says.3)
    (Fails-more count found entry others behind.last.expect sized known behind.fails_are))
