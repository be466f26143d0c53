-- What the tests of an image leave to be answered: the laws by which the reader's code is proved.
-- Assumes nothing.
use Rattle.std.specs.Prelude.{◌≡◌, List, Bool, true, false, ℕ, ◌≤◌, length}
use Rattle.std.proofs.Math.Path.{sym, ap}
use Rattle.std.proofs.Common.{◌∙◌}
use Rattle.plan.specs.declared.Plan.{Plan}
use Rattle.plan.specs.Faults.{CountsFit}
use Rattle.plan.specs.Value.{with_q, counter_sum}
use Rattle.plan.specs.Passed.{counts_fit, passes_3}
use Rattle.plan.specs.Tests.{bad_counts}
use Rattle.judge.specs.Answer.{Accepted}
use Rattle.judge.specs.Tests.{from_5}
use Rattle.judge.specs.Decided.{without_q}
use Rattle.judge.proofs.Decided.{from_5_numbers}
use Rattle.numerals.specs.LittleEndian.{two_bytes, four_bytes}
use Rattle.image.specs.Image.{tables_of, plan_of}
use Rattle.image.specs.Header.{good_offsets}
use Rattle.image.specs.Room.{Laid}
use Rattle.reader.specs.HeaderFaults.{offsets_exactly}

module _ (s : List ℕ) where
  abbrev pub counts_bad : Bool
  counts_bad = bad_counts (two_bytes s 2) (two_bytes s 4) (two_bytes s 6) (two_bytes s 8) (four_bytes s 12)

  -- what building the plan value needs of an image that has passed 1 to 4
  pub laid_of : 36 ≤ length s → counts_bad ≡ false → good_offsets s ≡ true → Laid s
  unfolding tables_of plan_of
  laid_of h b o =
      let k : CountsFit (plan_of s) = counts_fit (plan_of s) b in
      record {
        nodes_most = k.nodes_most;
        processes_most = k.processes_most;
        edges_most = k.edges_most;
        length_is = ((offsets_exactly s).0 o).length_is;
        header = h;
      }

  -- and what the tests from 5 on need of it, which do not look at its Q
  pub counted_of : counts_bad ≡ false → CountsFit (tables_of s)
  unfolding tables_of
  counted_of b = counts_fit (tables_of s) b

  pub answer_is : from_5 (tables_of s) ≡ from_5 (plan_of s)
  unfolding tables_of plan_of
  answer_is = without_q (tables_of s) 0 (counter_sum (tables_of s) 0)

  -- with the Q that is answered, the plan that was built is the image's
  pub filled_is : (pl : Plan) (q modulus least : ℕ) → pl ≡ tables_of s → counts_bad ≡ false → Accepted q modulus least ≡ from_5 pl
      → with_q pl q ≡ plan_of s
  unfolding tables_of plan_of
  filled_is pl q modulus least built b e =
      let n3 = (passes_3 (tables_of s)).0 b in
      ap (λ (p : Plan). with_q p q) built ∙ ap (with_q (tables_of s)) (from_5_numbers (tables_of s) n3 q modulus least (sym (e ∙ ap from_5 built)))
