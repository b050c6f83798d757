use Rattle.std.proofs.Common.{◌∙◌}
use Rattle.sets.specs.Bits.{row_bytes}
use Rattle.weighted.proofs.Written.{first_row_left, stored_row, behind_both}
use Rattle.weighted.proofs.parts.write_largest.Goals as goal

pub returns : goal.returns
returns c =
    let n = c.args.n in
    let old = c.args.sets.now in
    let mid = c.store_row.new.bytes in
    let new = c.store_row-2.new.bytes in
    record {
      largest = λ x l. first_row_left n mid new c.store_row-2.ensures.rest x l ∙ stored_row n 0 c.args.set.now mid c.store_row.ensures.members x l;
      duals = stored_row n (row_bytes n) c.args.dual.now new c.store_row-2.ensures.members;
      others = behind_both (row_bytes n) old mid new c.store_row.ensures.rest c.store_row-2.ensures.rest;
    }
