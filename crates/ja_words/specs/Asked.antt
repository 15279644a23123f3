-- What the values that are read ask for.
use Rattle.std.specs.Prelude.{◌≤◌, ⊤, option_map}
use Rattle.ja_words.specs.declared.words.Names.{Names as NamesRead}
use Rattle.ja_words.specs.declared.words.Order.{Order as OrderRead}
use Rattle.ja_words.specs.declared.words.Demo.{Demo as DemoRead}
use Rattle.ja_words.specs.declared.words.Words.{Words}
use Rattle.ja_words.specs.declared.words.Words.TheVariants as words
use Rattle.ja_words.specs.Words.{Names, Order, Demo, Command, ToConfirm, ToSign, ToDemo}

abbrev pub names : NamesRead → Names
names n = record { design = n.design.now; stim = n.stim.now; expect = option_map (λ x. x.now) n.expect }

abbrev pub order : OrderRead → Order
order o = record {
  design = o.design.now;
  expect = option_map (λ x. x.now) o.expect;
  workers = o.workers;
  budget = o.budget;
  fail_fast = o.fail_fast;
  journal = o.journal;
}

abbrev pub demo : DemoRead → Demo
demo d = record { n = d.n; workers = d.workers }

abbrev pub asked : Words → Command
asked (words.Confirm n) = ToConfirm (names n)
asked (words.Sign o) = ToSign (order o)
asked (words.Demo d) = ToDemo (demo d)

-- from 1 to 8 work at once
abbrev pub HasFewWorkers : OrderRead → Type 0
HasFewWorkers o = (1 ≤ o.workers) × (o.workers ≤ 8)

-- the ring has from 3 to 1,000 latches, and from 1 to 8 work at once
abbrev pub IsDemoInRange : DemoRead → Type 0
IsDemoInRange d = (3 ≤ d.n) × (d.n ≤ 1000) × (1 ≤ d.workers) × (d.workers ≤ 8)

-- the numbers of what is asked for are in range
abbrev pub IsAskedInRange : Words → Type 0
IsAskedInRange (words.Confirm n) = ⊤
IsAskedInRange (words.Sign o) = HasFewWorkers o
IsAskedInRange (words.Demo d) = IsDemoInRange d
