-- Formulas 14 and 15 of 000 over the rounds of two processes: what a look and a reading tell of an edge whose end is next and whose
-- source raises its counter. This is what the machine's proofs cite. Assumes nothing.
use Rattle.std.specs.Prelude.{◌≡◌, true, ◌↔◌, ℕ, ◌+◌, ◌≤◌, ◌<◌}
use Rattle.std.proofs.Common.{inl, inr, arith}
use Rattle.counting.specs.Modular.{Divides, Exceeds, finds, reading_mended}
use Rattle.counting.specs.Process.{Counted_node, Next, Raises, b_of, Counted_edge}
use Rattle.counting.proofs.Rounding.{rounded_counter}
use Rattle.counting.specs.Exact.{never_early}
use Rattle.counting.proofs.Exact.{test_exact, reading_exact}

module _ {q n : ℕ} (end source : Counted_node q n) (h : 0 < q) (d : Divides q n) (next : Next end) (raises : Raises source)
    (tokens now : ℕ) (balance : now + end.firings ≡ tokens + source.firings) where
  -- the edge between the two nodes, as their counters see it
  between : 0 < n → Counted_edge q n tokens now end.firings source.firings (b_of end) (b_of source)
  between z = record {
    balance = balance;
    end_rounded = rounded_counter end h z d (inl next);
    source_rounded = rounded_counter source h z d (inr raises);
  }

  -- with any N a look never finds where no token stands
  pub look_never_early : 0 < n → finds q n tokens (b_of end) (b_of source) ≡ true → 0 < now
  look_never_early z = never_early (between z) h z

  module _ (back : ℕ) (route_back : source.firings ≤ end.firings + back) (bound : Exceeds q n tokens back) where
    positive : 0 < n
    positive = omega arith

    -- and finds exactly where one stands
    pub look_exact : (finds q n tokens (b_of end) (b_of source) ≡ true) ↔ (0 < now)
    look_exact = test_exact (between positive) h positive back route_back bound

    -- and the mended reading is the tokens
    pub reading_of_tokens : reading_mended q n tokens (b_of source) (b_of end) ≡ now
    reading_of_tokens = reading_exact (between positive) h positive back route_back bound d
