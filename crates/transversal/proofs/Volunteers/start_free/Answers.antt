use Rattle.std.proofs.Common.{◌≡◌, ℕ, ◌<◌, ap, ◌∙◌, arith}
use Rattle.transversal.specs.Volunteers.{in_row}
use Rattle.transversal.specs.Pairs.{named, can_by, start_free}
use Rattle.transversal.proofs.RowFacts.{other_row}
use Rattle.transversal.proofs.RowTurns.{freed_in, freed_past, freed_same}
use Rattle.transversal.proofs.Tables.{none_at, some_at}
use Rattle.transversal.proofs.Volunteers.start_free.Goals as goal
use Rattle.transversal.proofs.Volunteers.start_free.Goals.{then-is_none, else-is_none}

pub loop-v-preserved : goal.loop-v-preserved
loop-v-preserved c = elim c.if-is_none.branch [
  | then-is_none w ↦ rw w.state-is (freed_in c.args.self.now.n 0 c.width-width.result (omega arith) (named c.args.matching.now.owner) c.loop-v.v c.clear.new.set c.loop-v.state w.or_row.new.words
      (omega (arith, none_at c.args.matching.now.owner c.loop-v.v c.is_none.result c.is_none.ensures w.if-is_none.true)) c.loop-v.invariant w.or_row.ensures.marks w.or_row.ensures.rest)
  | else-is_none w ↦ rw w.state-is (
    freed_past c.args.self.now.n 0 c.width-width.result (omega arith) (named c.args.matching.now.owner) c.loop-v.v c.clear.new.set c.loop-v.state
        (some_at c.args.self.now.n c.args.matching.now.owner c.loop-v.v c.is_none.result (omega arith) c.requires.helped c.is_none.ensures w.if-is_none.false) c.loop-v.invariant.0,
    c.loop-v.invariant.1,
  )
]

pub returns : goal.returns
returns c = rw (← c.width-width.ensures) (
    let same : (k x : ℕ) → (k ≡ c.args.self.now.n → ⊥) → x < c.args.self.now.n → in_row c.clear.new.set c.width-width.result k x ≡ in_row c.args.state.now c.width-width.result k x =
    λ k x d h. other_row c.args.self.now.n k c.width-width.result c.args.state.now c.clear.new.set c.clear.ensures.rest d x (omega arith) in
    let end : c.loop-v.v ≡ c.args.self.now.volunteers = omega arith in
    record {
      free = λ x h. c.loop-v.invariant.0 x h
          ∙ (ap (λ v. start_free (can_by c.clear.new.set c.args.self.now.n c.width-width.result) c.args.self.now.n v (named c.args.matching.now.owner) x) end
          ∙ freed_same c.args.self.now.n c.args.self.now.volunteers c.width-width.result (omega arith) (named c.args.matching.now.owner) c.args.state.now c.clear.new.set x h same);
      rest = λ k x d h. c.loop-v.invariant.1 k x d h ∙ same k x d h;
    })
