use Rattle.std.proofs.Common.{rules, arith, ◌≡◌, true, sym, ◌∙◌, ap, subst, ◌+◌, ◌/◌, ◌≤◌, ◌<◌, length, map, [], List, ℤ, pos, ◌+ℤ◌, FitsSigned, w64, to_z, of_z}
use Rattle.std.proofs.Math.Option.{none}
use mir.Facts.{to_z-of_z, to_z_pos}
use Rattle.rules.specs.Keyed.{find, upsert, upsert_all}
use Rattle.rules.specs.Rows.{record_key, position_key, sound_record}
use Rattle.rules.specs.Refusal.{all_of}
use Rattle.rules.specs.Layout.{room_of, rows_of, write}
use Rattle.rules.specs.Tables.{current_day, records_layout, positions_layout}
use Rattle.rules.specs.Merge.{pairs_of, merged_record, merge_inverses}
use Rattle.rules.specs.Handle.{answered}
use Rattle.rules.specs.declared.Record.{Record}
use Rattle.rules.specs.declared.Position.{Position}
use Rattle.rules.specs.declared.Reply.TheVariants.{Booked}
use Rattle.lookup.specs.Found.{found_told}
use Rattle.scan.proofs.ReadBack.{read_back}
use Rattle.verdict.proofs.Ready.{InsertReady}
use Rattle.merge_sources.specs.Sources.{sources_in, source_records, all_found}
use Rattle.merge_sources.proofs.MergeBooking.{sources_adjusted, inverses_inserted, found-adjusted, inverses-sound, inverses-room, merged-absent, merged-sound, merged-room, merge-booked}
use Rattle.merge.proofs.Booked.{WriteReady, rows_sound, facts, found, count, differ, averageable, residual-of, merged-of, left-of, movable, writable}
use Rattle.merge.proofs.booking.book.Goals as goal

-- The cells after the inverses, by the cells before them.
inserted-of : (rs before after list : List ℤ) (today id : ℤ) → today ≡ current_day rs → before ≡ sources_adjusted rs id list →
    after ≡ write records_layout before (upsert_all record_key (merge_inverses today id [] (sources_in before list)) (rows_of records_layout before)) → after ≡ inverses_inserted rs id list
inserted-of rs before after list today id t b e =
    e ∙ (λ i. write records_layout (b i) (upsert_all record_key (merge_inverses (t i) id [] (sources_in (b i) list)) (rows_of records_layout (b i))))

pub today-today-requires : goal.today-today-requires
today-today-requires c = rows_sound c.requires

pub source_record-first-requires : goal.source_record-first-requires
source_record-first-requires c = (rows_sound c.requires, c.requires.rows-known, omega (arith, (count c.requires).0))

pub sum_of_quantities-quantity-requires : goal.sum_of_quantities-quantity-requires
sum_of_quantities-quantity-requires c = (rows_sound c.requires, c.requires.rows-known, found c.requires, (count c.requires).1)

pub sum_of_values-value-requires : goal.sum_of_values-value-requires
sum_of_values-value-requires c =
    (rows_sound c.requires, c.requires.rows-known, found c.requires, (count c.requires).1, (facts c.requires).passed.sources-adjustable, (facts c.requires).passed.sum-small)

pub average-price-requires : goal.average-price-requires
average-price-requires c =
    let v = read_back c.sum_of_values-value.result c.sum_of_values-value.type_inv ∙ c.sum_of_values-value.ensures in
    let q = read_back c.sum_of_quantities-quantity.result c.sum_of_quantities-quantity.type_inv ∙ c.sum_of_quantities-quantity.ensures in
    rw (v, q) (averageable c.requires)

pub residual-residual-requires : goal.residual-residual-requires
residual-residual-requires c =
    let v = read_back c.sum_of_values-value.result c.sum_of_values-value.type_inv ∙ c.sum_of_values-value.ensures in
    let q = read_back c.sum_of_quantities-quantity.result c.sum_of_quantities-quantity.type_inv ∙ c.sum_of_quantities-quantity.ensures in
    rw (v, q) (averageable c.requires)

pub moved-left-requires : goal.moved-left-requires
moved-left-requires c =
    let v = read_back c.sum_of_values-value.result c.sum_of_values-value.type_inv ∙ c.sum_of_values-value.ensures in
    let q = read_back c.sum_of_quantities-quantity.result c.sum_of_quantities-quantity.type_inv ∙ c.sum_of_quantities-quantity.ensures in
    let first : Record = c.source_record-first.result in
    let side : FitsSigned w64 first.side = search rules in
    let buy = simp (to_z-of_z side) at c.is_buy.ensures in
    let residual = residual-of c.requires first _ _ _ c.is_buy.result c.source_record-first.ensures v q buy (read_back c.residual-residual.result c.residual-residual.type_inv ∙ c.residual-residual.ensures) in
    movable c.requires c.by_residual-m.result _ residual c.by_residual-m.ensures

pub adjust_sources-requires : goal.adjust_sources-requires
adjust_sources-requires c = (rows_sound c.requires, found c.requires, (facts c.requires).passed.sources-adjustable, differ c.requires, c.requires.rows-known)

pub insert_inverses-requires : goal.insert_inverses-requires
insert_inverses-requires c =
    let rs : List ℤ = c.args.records.now in
    let ps : List ℤ = c.args.positions.now in
    let list : List ℤ = c.args.pairs.now in
    let sound = rows_sound c.requires in
    let facts = facts c.requires in
    let today = read_back c.today-today.result c.today-today.type_inv ∙ c.today-today.ensures in
    let e : sources_adjusted rs c.args.id list ≡ c.adjust_sources.new.records = sym c.adjust_sources.ensures.0 in (
      c.adjust_sources.ensures.1,
      subst (λ (xs : List ℤ). all_found xs list ≡ true) e (found-adjusted rs ps c.args.id c.args.account c.args.series list sound facts),
      simp (today, to_z-of_z c.ranges.id)
          (subst (λ (xs : List ℤ). all_of (map sound_record (merge_inverses (current_day rs) c.args.id [] (sources_in xs list))) ≡ true) e
          (inverses-sound rs ps c.args.id c.args.account c.args.series list sound facts)),
      subst (λ (xs : List ℤ). length (rows_of records_layout xs) + length (pairs_of list) ≤ room_of records_layout xs) e
          (inverses-room rs ps c.args.id c.args.account c.args.series list sound facts),
    )

pub insert_merged-requires : goal.insert_merged-requires
insert_merged-requires c =
    let rs : List ℤ = c.args.records.now in
    let ps : List ℤ = c.args.positions.now in
    let list : List ℤ = c.args.pairs.now in
    let id : ℤ = c.args.id in
    let sound = rows_sound c.requires in
    let facts = facts c.requires in
    let v = read_back c.sum_of_values-value.result c.sum_of_values-value.type_inv ∙ c.sum_of_values-value.ensures in
    let q = read_back c.sum_of_quantities-quantity.result c.sum_of_quantities-quantity.type_inv ∙ c.sum_of_quantities-quantity.ensures in
    let today = read_back c.today-today.result c.today-today.type_inv ∙ c.today-today.ensures in
    let price = read_back c.average-price.result c.average-price.type_inv ∙ c.average-price.ensures in
    let first : Record = c.source_record-first.result in
    let merged = (simp (to_z-of_z c.ranges.id) at c.merged_row-merged.ensures) ∙ merged-of c.requires first _ _ _ _ c.source_record-first.ensures today v q price in
    let inserted : c.insert_inverses.new.records ≡ inverses_inserted rs id list = inserted-of rs c.adjust_sources.new.records c.insert_inverses.new.records list _ id today c.adjust_sources.ensures.0
    (simp (to_z-of_z c.ranges.id) at c.insert_inverses.ensures.0) in
    let new : List ℤ = c.insert_inverses.new.records in
    let absent-with-room : (find record_key (record_key (merged_record (current_day rs) id (source_records rs list))) (rows_of records_layout new) ≡ none) × (length (rows_of records_layout new) < room_of records_layout new)
    = rw inserted (merged-absent rs ps id c.args.account c.args.series list sound facts, merged-room rs ps id c.args.account c.args.series list sound facts) in
    subst (λ (r : Record). InsertReady new r) (sym merged)
    (c.insert_inverses.ensures.1, merged-sound rs ps id c.args.account c.args.series list sound facts, absent-with-room.0, absent-with-room.1)

pub write_position-requires : goal.write_position-requires
write_position-requires c =
    let v = read_back c.sum_of_values-value.result c.sum_of_values-value.type_inv ∙ c.sum_of_values-value.ensures in
    let q = read_back c.sum_of_quantities-quantity.result c.sum_of_quantities-quantity.type_inv ∙ c.sum_of_quantities-quantity.ensures in
    let first : Record = c.source_record-first.result in
    let side : FitsSigned w64 first.side = search rules in
    let buy = simp (to_z-of_z side) at c.is_buy.ensures in
    let residual = residual-of c.requires first _ _ _ c.is_buy.result c.source_record-first.ensures v q buy (read_back c.residual-residual.result c.residual-residual.type_inv ∙ c.residual-residual.ensures) in
    let left = left-of c.requires c.by_residual-m.result c.moved-left.result _ residual c.by_residual-m.ensures c.moved-left.ensures in
    subst (λ (p : Position). WriteReady c.args.positions.now (found_told c.args.held.found) p) (sym left) (writable c.requires)

pub overflow_add-added : goal.overflow_add-added
overflow_add-added c =
    let few = (count c.requires).1 in
    let bits : to_z w64 (length c.args.pairs.now / 2) ≡ pos (length c.args.pairs.now / 2) = to_z_pos w64 (omega (arith, few)) in
    rw bits (record { sfits = omega (arith, few) })

pub returns : goal.returns
returns c =
    let rs : List ℤ = c.args.records.now in
    let ps : List ℤ = c.args.positions.now in
    let list : List ℤ = c.args.pairs.now in
    let id : ℤ = c.args.id in
    let few = (count c.requires).1 in
    let v = read_back c.sum_of_values-value.result c.sum_of_values-value.type_inv ∙ c.sum_of_values-value.ensures in
    let q = read_back c.sum_of_quantities-quantity.result c.sum_of_quantities-quantity.type_inv ∙ c.sum_of_quantities-quantity.ensures in
    let today = read_back c.today-today.result c.today-today.type_inv ∙ c.today-today.ensures in
    let price = read_back c.average-price.result c.average-price.type_inv ∙ c.average-price.ensures in
    let first : Record = c.source_record-first.result in
    let side : FitsSigned w64 first.side = search rules in
    let buy = simp (to_z-of_z side) at c.is_buy.ensures in
    let residual = residual-of c.requires first _ _ _ c.is_buy.result c.source_record-first.ensures v q buy (read_back c.residual-residual.result c.residual-residual.type_inv ∙ c.residual-residual.ensures) in
    let left = left-of c.requires c.by_residual-m.result c.moved-left.result _ residual c.by_residual-m.ensures c.moved-left.ensures in
    let merged = (simp (to_z-of_z c.ranges.id) at c.merged_row-merged.ensures) ∙ merged-of c.requires first _ _ _ _ c.source_record-first.ensures today v q price in
    let inserted : c.insert_inverses.new.records ≡ inverses_inserted rs id list = inserted-of rs c.adjust_sources.new.records c.insert_inverses.new.records list _ id today c.adjust_sources.ensures.0
    (simp (to_z-of_z c.ranges.id) at c.insert_inverses.ensures.0) in
    let records = c.insert_merged.ensures.0 ∙ (λ i. write records_layout (inserted i) (upsert record_key (merged i) (rows_of records_layout (inserted i)))) in
    let positions = c.write_position.ensures.0 ∙ ap (λ (p : Position). write positions_layout ps (upsert position_key p (rows_of positions_layout ps))) left in
    let bits : to_z w64 (length list / 2) ≡ pos (length list / 2) = to_z_pos w64 (omega (arith, few)) in
    let fits : FitsSigned w64 (pos (length list / 2) +ℤ pos 1) = record { sfits = omega (arith, few) } in
    let rows : to_z w64 (of_z w64 (to_z w64 (length list / 2) +ℤ pos 1)) ≡ pos (length list / 2) +ℤ pos 1 = ap (λ (z : ℤ). to_z w64 (of_z w64 (z +ℤ pos 1))) bits ∙ to_z-of_z fits in
    (λ i. answered (Booked (rows i) (residual i)) (records i) (positions i))
    ∙ sym (merge-booked rs ps id c.args.account c.args.series list (rows_sound c.requires) (facts c.requires))
