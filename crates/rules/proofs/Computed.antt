-- To compute with the rules, each of their definitions is opened: a statement that holds by computation says `unfolding Computed`. A definition that the rules gain is one word more here.
use mathlib.Core.List.{flat_map}
use Rattle.text.specs.Decimal.{digits_before, digits_within, digits_of, number_text}
use Rattle.text.specs.Fields.{fields_text}
use Rattle.text.specs.Scan.{is_digit, more_digits, digits_after, take_magnitude, not_negative, below_zero, negative, take_number, take_field, before, fields_from, take_fields}
use Rattle.integers.specs.Order.{eq_z, in_range}
use Rattle.integers.specs.Average.{average_of, residual_of}
use Rattle.integers.specs.Rounded.{half_up, rounded}
use Rattle.rules.specs.Batch.{trades_of, batch_figures, batch_tests, excess_of, excesses_of, batch_reply, batch_answer, handle_batch}
use Rattle.rules.specs.Books.{view_of}
use Rattle.rules.specs.Call.{handle_call, requests_of}
use Rattle.rules.specs.Day.{day_plan}
use Rattle.rules.specs.Figures.{valid_day, magnitude_at_most, valid_id, valid_suffix, valid_account, valid_series, valid_quantity, valid_price, valid_side, is_buy, signed, is_to_close, valid_count}
use Rattle.rules.specs.GiveUp.{give_up_figures, is_at, has_turn, has_figures, may_step, is_out_of_turn, stepped, is_complete, step_status_test, record_after, finished, give_up_effects, process_before, give_up_plan}
use Rattle.rules.specs.Handle.{plan_of, sound_processes_test, soundness_tests, refusals, written_by, plan_tables, answer, handle}
use Rattle.rules.specs.Keyed.{below, same, is_some, at_least, rising, find, greatest, upsert, upsert_all, absent_from}
use Rattle.rules.specs.Layout.{encode, room_for, room_of, rows_of, count_is_sound, write}
use Rattle.rules.specs.Line.{line_text, line_of, is_journalled, passes_test3}
use Rattle.rules.specs.Lineage.{one_more_link, origin_via, origin_of, lineage_reply, lineage_plan}
use Rattle.rules.specs.Merge.{pairs_of, valid_pair, merge_figures, sources_of, records_of, is_missing, first_status_refusal, status_of_each, closes, is_among, stood_earlier, first_of, side_differs, sum_of_quantities, sum_of_values, times_in, merge_inverses, merged_record, merge_residual, merge_plan}
use Rattle.rules.specs.NamedRecord.{no_record, the_record, is_elsewhere, is_not_adjustable, status_refusal, status_test, next_suffix}
use Rattle.rules.specs.Plan.{suffix_is_above, process_room_test, booking_tests, plan_tests, put_process, booked, plan_books, plan_reply}
use Rattle.rules.specs.ProcessRows.{stage_number, valid_stage, valid_approval, sound_process, opened_process, the_process}
use Rattle.rules.specs.Reader.{step_of_letter, step_heading, take_step, take_heading, end_of_line, figures_after, take_line, has_its_figures, request_named, is_valid_line, request_from, take_request, alone, request_of, line_then, read_within, reading_of}
use Rattle.rules.specs.Refusal.{test, any_of, all_of, first_place, test_each, first_refusal}
use Rattle.rules.specs.Replay.{replay_reply, replay_answer, handle_replay}
use Rattle.rules.specs.Reportable.{is_of_day, is_inverse, parent_of, is_of_earlier_day, is_reportable, lacks_parent, reportable_among, ids_and_suffixes, reportable_tests, listed_in, handle_reportable}
use Rattle.rules.specs.Reply.{refused_by}
use Rattle.rules.specs.Request.{is_step}
use Rattle.rules.specs.Rows.{valid_kind, valid_status, valid_signed_quantity, valid_booked, valid_into, valid_parent, sound_record, valid_total, sound_position, zero_position, or_zeros, moved, adjusted_record, new_record, inverse_record, adjustable_record}
use Rattle.rules.specs.Run.{after_reply, run}
use Rattle.rules.specs.Sequence.{goes_on, until_refused}
use Rattle.rules.specs.Separation.{sum_of, separation_figures, part_records, separation_plan}
use Rattle.rules.specs.Tables.{sound_record_rows, day_within, sound_days, day_written, record_cells, position_cells, process_cells, sound_table, sound_records, sound_positions, sound_processes, books_of, write_books}
use Rattle.rules.specs.Totals.{is_live, is_of, live_records, signed_quantity, signed_value, sum_over, total_quantity, total_value}
use Rattle.rules.specs.Touching.{touches_all, call_touches_all, ids_of, positions_of, is_named_in, share_id, share_position, touch, call_ids, call_positions, calls_touch}
use Rattle.rules.specs.Trade.{trade_figures, open_against, smaller, closed_by, long_booked, short_booked, is_closing_error, trade_kind, trade_reply, trade_plan}
use Rattle.rules.specs.Transfer.{transfer_figures, in_long, in_short, holds_too_little, transfer_plan}
use Rattle.rules.specs.Writing.{left_in, writing, write_request, write_trades, step_named, or_open, write_give_up}

unfoldable pub Computed : Type 0
unfolding flat_map valid_day sound_record_rows day_within sound_days day_written touches_all call_touches_all day_plan is_of_day is_inverse parent_of is_of_earlier_day is_reportable lacks_parent reportable_among ids_and_suffixes reportable_tests listed_in handle_reportable eq_z in_range half_up rounded average_of residual_of trades_of batch_figures batch_tests excess_of excesses_of batch_reply batch_answer handle_batch view_of handle_call requests_of magnitude_at_most valid_id valid_suffix valid_account valid_series valid_quantity valid_price valid_side is_buy signed is_to_close valid_count give_up_figures is_at has_turn has_figures may_step is_out_of_turn stepped is_complete step_status_test record_after finished give_up_effects process_before give_up_plan plan_of is_step sound_processes_test soundness_tests refusals written_by plan_tables answer handle below same is_some at_least rising find greatest upsert upsert_all absent_from encode room_for room_of rows_of count_is_sound write one_more_link origin_via origin_of lineage_reply lineage_plan pairs_of valid_pair merge_figures sources_of records_of is_missing first_status_refusal status_of_each closes is_among stood_earlier first_of side_differs sum_of_quantities sum_of_values times_in merge_inverses merged_record merge_residual merge_plan no_record the_record is_elsewhere is_not_adjustable status_refusal status_test next_suffix suffix_is_above process_room_test booking_tests plan_tests put_process booked plan_books plan_reply stage_number valid_stage valid_approval sound_process opened_process the_process test any_of all_of first_place test_each first_refusal refused_by valid_kind valid_status valid_signed_quantity valid_booked valid_into valid_parent sound_record valid_total sound_position zero_position or_zeros moved adjusted_record new_record inverse_record adjustable_record after_reply run goes_on until_refused sum_of separation_figures part_records separation_plan record_cells position_cells process_cells sound_table sound_records sound_positions sound_processes books_of write_books is_live is_of live_records signed_quantity signed_value sum_over total_quantity total_value ids_of positions_of is_named_in share_id share_position touch call_ids call_positions calls_touch trade_figures open_against smaller closed_by long_booked short_booked is_closing_error trade_kind trade_reply trade_plan transfer_figures in_long in_short holds_too_little transfer_plan digits_before digits_within digits_of number_text fields_text is_digit more_digits digits_after take_magnitude not_negative below_zero negative take_number take_field before fields_from take_fields line_text line_of is_journalled passes_test3 step_of_letter step_heading take_step take_heading end_of_line figures_after take_line has_its_figures request_named is_valid_line request_from take_request alone request_of line_then read_within reading_of replay_reply replay_answer handle_replay left_in writing write_request write_trades step_named or_open write_give_up
Computed = Unit {0}
