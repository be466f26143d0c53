-- The tests of a plan by their numbers in 01, and what turns a plan down. Definitions only.
-- Assumes nothing.
use Rattle.std.specs.Prelude.{ℕ, Bool, true, false, Option, Some, None, Result, Ok, Err}
use Rattle.plan.specs.declared.Test.{Test}
use Rattle.plan.specs.declared.Test.TheVariants.{Header, Format, Counts, Layout, Lengths, Order, Nodes, Edges, ProcessEdges, Counters, Increments, Sums, FreeCycles, WaysBack, Multiple, Bounds}
use Rattle.plan.specs.declared.Refusal.{Refusal}

-- the number that 01 gives a test
abbrev pub number_of : Test → ℕ
number_of Header = 1
number_of Format = 2
number_of Counts = 3
number_of Layout = 4
number_of Lengths = 5
number_of Order = 6
number_of Nodes = 7
number_of Edges = 8
number_of ProcessEdges = 9
number_of Counters = 10
number_of Increments = 11
number_of Sums = 12
number_of FreeCycles = 13
number_of WaysBack = 14
number_of Multiple = 15
number_of Bounds = 16

-- turned down by a test at the place that was found, if one was
abbrev pub refused_at : Test → Option ℕ → Result (Unit {0}) Refusal
refused_at test None = Ok tt
refused_at test (Some place) = Err (record { test = test; place = place })

-- turned down by a test at place 0 where it is so
abbrev pub refused_if : Test → Bool → Result (Unit {0}) Refusal
refused_if test true = Err (record { test = test; place = 0 })
refused_if test false = Ok tt
