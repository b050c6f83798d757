-- The rest of the row, the new functional and the corrected ones are a dual basis with one row more.
use Rattle.std.proofs.Common.{◌≡◌, ℕ, ◌+◌, ◌-◌, ◌*◌, ◌≤◌, ◌∙◌, not, List, length, get_or, sym, refl, ap, arith}
use Rattle.std.proofs.lemmas.Bool.{true≢false, false≢true}
use Rattle.sets.specs.Bits.{marked}
use Rattle.linear.specs.Rows.{number}
use Rattle.linear.proofs.Insertion.{no_column, a_column, basis_more}
use Rattle.linear.proofs.Parts.{part_length, part_new, part_rest, front_read}
use Rattle.linear.proofs.rows.Rows.insert.Goals as goal

pub returns : goal.returns
returns c =
    let r = c.args.self.now in
    let found = c.in-Some.ensures in
    let a = 65 * c.args.r in
    let same : a + r.len - a ≡ r.len = omega arith in
    let inside : a + r.len ≤ length c.correct.new.state = omega (arith, r.well.few_numbers) in
    let long = c.copy_from_slice.ensures.len ∙ part_length a _ r.len c.correct.new.state same inside in
    record {
      answer =
          sym (ap not (a_column r.prime r.len (number r.file.now r.len r.at) c.args.state.now c.args.r (marked c.args.set.now)
          r.well.is_prime r.well.prime_small c.requires.dual c.find_rest-rest.result c.find_rest-rest.ensures
          c.in-Some.q found.0 found.2));
      grown =
          λ _.
          basis_more r.prime r.len (number r.file.now r.len r.at) c.args.state.now c.args.r (marked c.args.set.now)
          r.well.is_prime r.well.prime_small c.requires.dual c.find_rest-rest.result c.find_rest-rest.ensures
          c.in-Some.q c.inverse-scale.result c.find_functional-g.result c.correct.new.state _
          found.0 found.2 c.inverse-scale.ensures r.well.few_numbers
          c.find_functional-g.ensures c.correct.ensures
          (λ j h. part_new a _ r.len c.correct.new.state c.copy_from_slice.new.self j same inside long h
          ∙ ap (λ (xs : List ℕ). get_or xs j 0) c.copy_from_slice.ensures.after ∙ front_read r.len c.find_functional-g.result j h)
          (part_rest a _ r.len c.correct.new.state c.copy_from_slice.new.self same inside long);
      unchanged = λ e. absurd (true≢false e);
    }

pub returns-in_default : goal.returns-in_default
returns-in_default c =
    let r = c.args.self.now in
    record {
      answer =
          sym (ap not (no_column r.prime r.len (number r.file.now r.len r.at) c.args.state.now c.args.r (marked c.args.set.now)
          r.well.is_prime r.well.prime_small c.requires.dual c.find_rest-rest.result c.find_rest-rest.ensures
          c.in_default.ensures));
      grown = λ h. absurd (false≢true h);
      unchanged = λ _. refl;
    }
