-- The starred plans of 01 with their answers, as one table, by computation.
-- Assumes nothing.
use Rattle.std.specs.Prelude.{◌≡◌, refl, [], ◌∷◌, map}
use Rattle.loops.specs.Choice.{if, both, either, one_if}
use Rattle.loops.specs.First.{first, first_of}
use Rattle.loops.specs.Any.{any, any_of}
use Rattle.loops.specs.Sum.{sum}
use Rattle.loops.specs.Fold.{fold}
use Rattle.loops.specs.Table.{entries, padded}
use Rattle.plan.specs.Value.{base, share, counter_sum, edge_sum}
use Rattle.plan.specs.Tests.{outside, bad_counts, zero_length, same_entry, bad_order, bad_node, not_above, not_rising, bad_edge, stands_at, order_position, ends_past, process_at, home_of, different, refuse_lowest, refuse_if, order_then, tables_then}
use Rattle.routes.specs.Rows.{total, start, relaxed, sweep, settled, emptiest_row}
use Rattle.judge.specs.Answer.{Accepted, Refused}
use Rattle.seats.specs.Crossing.{crosses}
use Rattle.rounds.specs.Lent.{is_edge, is_last, fires_after, edge_tokens, has_counter, lacks_edge, strays_in, bad_counter_in, sends_in, bad_increment_in, bad_sum_in}
use Rattle.cycles.specs.Lent.{loop_sum_in, closes_free_in, on_free_cycle_in, no_way_back_in, not_above_in, asks_in, most_asked}
use Rattle.judge.specs.Tests.{from_15_in, from_13_in, from_11_in, from_9, from_5}
use Rattle.numerals.specs.LittleEndian.{two_bytes, four_bytes}
use Rattle.image.specs.Offsets.{order_start, node_start, edge_start}
use Rattle.image.specs.Offsets as offsets
use Rattle.image.specs.Image.{entry, tables_of, plan_of}
use Rattle.reader.specs.Tests.{verdict}
use Rattle.image.specs.Header.{good_format, good_offsets, good_later_offsets}
use Rattle.reader.specs.Plans.{as_two, as_four, all_as_two, image_of, like_P, edges_of_P, P, P_with_N_3, P_without_3_0, P_with_1_2_repeated, one_node, P_by_twos, P_with_0_0, ring, P_all_ones}

pub starred_plans :
    map verdict (
    P ∷ P_with_N_3 ∷ P_without_3_0 ∷ P_with_1_2_repeated ∷ one_node 1 ∷ one_node 0 ∷ P_by_twos 7 ∷ P_by_twos 6 ∷ P_with_0_0 ∷ ring 3 ∷ ring 4 ∷ P_all_ones ∷ []
    ) ≡ Accepted 1 4 4 ∷ Refused 16 2 ∷ Refused 14 2 ∷ Refused 8 3 ∷ Accepted 1 1 1 ∷ Refused 12 0 ∷ Refused 15 0 ∷ Refused 16 2 ∷ Refused 13 0 ∷ Refused 16 1
    ∷ Accepted 1 4 4 ∷ Accepted 2 8 8 ∷ []
unfolding as_two as_four all_as_two image_of like_P edges_of_P P P_with_N_3 P_without_3_0 P_with_1_2_repeated one_node P_by_twos P_with_0_0 ring P_all_ones if both either one_if first first_of any any_of sum fold entries padded base share counter_sum edge_sum outside bad_counts zero_length same_entry bad_order bad_node not_above not_rising bad_edge stands_at order_position ends_past process_at home_of different crosses total start relaxed sweep settled emptiest_row is_edge is_last fires_after edge_tokens has_counter lacks_edge strays_in bad_counter_in sends_in bad_increment_in bad_sum_in loop_sum_in closes_free_in on_free_cycle_in no_way_back_in not_above_in asks_in most_asked refuse_lowest refuse_if order_then tables_then from_15_in from_13_in from_11_in from_9 two_bytes four_bytes entry order_start node_start edge_start offsets.total tables_of plan_of good_format good_offsets good_later_offsets from_5 verdict
starred_plans = refl
