-- The reader's tests in 01's order, as the program runs them, and what it answers. Definitions only.
-- Assumes nothing.
use Rattle.std.specs.Prelude.{◌≡◌, List, ℕ, ltb, length, replicate}
use Rattle.loops.specs.Choice.{if}
use Rattle.plan.specs.declared.Plan.{Plan}
use Rattle.plan.specs.Tests.{bad_counts, refuse_if}
use Rattle.judge.specs.Answer.{Answer}
use Rattle.judge.specs.Answer.{Accepted, Refused}
use Rattle.judge.specs.Tests.{from_5}
use Rattle.reader.specs.Answer.{ReadPlan}
use Rattle.numerals.specs.LittleEndian.{two_bytes, four_bytes}
use Rattle.image.specs.Image.{plan_of}
use Rattle.image.specs.Header.{good_format, good_offsets}

-- all tests of an image
unfoldable pub verdict : List ℕ → Answer
verdict s =
    refuse_if Refused 1 (ltb (length s) 36)
    (if (good_format s)
    (refuse_if Refused 3 (bad_counts (two_bytes s 2) (two_bytes s 4) (two_bytes s 6) (two_bytes s 8) (four_bytes s 12))
    (if (good_offsets s) (from_5 (plan_of s)) (Refused 4 0)))
    (Refused 2 0))

-- the plan value with nothing of a plan in it
unfoldable pub no_plan : Plan
no_plan =
    record {
      nodes = 0;
      processes = 0;
      edges = 0;
      counters = 0;
      modulus = 0;
      q = 0;
      lengths = replicate 64 0;
      order = replicate 64 0;
      counter = replicate 64 0;
      increment = replicate 64 0;
      source = replicate 512 0;
      destination = replicate 512 0;
      tokens = replicate 512 0;
    }

-- the plan beside an answer: "all 0 after a refusal"
unfoldable pub plan_beside : Answer → Plan → Plan
plan_beside (Accepted q modulus least) pl = pl
plan_beside (Refused number place) pl = no_plan

unfoldable pub read_of : List ℕ → ReadPlan
read_of s = record { answer = verdict s; plan = plan_beside (verdict s) (plan_of s) }

-- the image is accepted
abbrev pub IsAccepted : List ℕ → Type 0
IsAccepted s = (q modulus least : ℕ) × (verdict s ≡ Accepted q modulus least)
