-- The state is that of the links so far; a link that closes a ring stops the set.
use Rattle.std.proofs.Common.{◌≡◌, sym, ◌∙◌, zero-add, arith}
use Rattle.std.proofs.lemmas.Bool.{false≢true}
use Rattle.sets.specs.Bits.{marked}
use Rattle.graphic.proofs.Growing.{front, front_new, ready_none, front_none, front_taken, front_passed, front_all, stops}
use Rattle.graphic.proofs.Links.independent.Goals as goal
use Rattle.graphic.proofs.Links.independent.Goals.{else-contains-via-then-contains+else-not-add_link, else-contains-via-else-contains}

pub loop-i-init : goal.loop-i-init
loop-i-init c =
    front_none c.args.self.now.file.now c.args.self.now.n c.args.self.now.towns c.args.self.now.at (marked c.args.set.now) c.start.new.state
    (ready_none c.args.self.now.file.now c.args.self.now.n c.args.self.now.towns c.args.self.now.at c.start.new.state (omega arith) c.start.ensures)

pub loop-i-preserved : goal.loop-i-preserved
loop-i-preserved c =
    let is : c.contains.result ≡ marked c.args.set.now c.loop-i.i = rw zero-add at c.contains.ensures in
    elim c.else-contains.branch [
      | else-contains-via-then-contains+else-not-add_link w ↦ rw w.state-is
          (front_taken c.args.self.now.file.now c.args.self.now.n c.args.self.now.towns c.args.self.now.at (marked c.args.set.now) c.loop-i.i w.add_link.new.state
          (sym is ∙ w.if-contains.true)
          (w.add_link.ensures.grows (front (marked c.args.set.now) c.loop-i.i) c.loop-i.invariant
          (front_new (marked c.args.set.now) c.loop-i.i) w.if-not-add_link.false))
      | else-contains-via-else-contains w ↦ rw w.state-is
          (front_passed c.args.self.now.file.now c.args.self.now.n c.args.self.now.towns c.args.self.now.at (marked c.args.set.now) c.loop-i.i c.loop-i.state
          (sym is ∙ w.if-contains.false) c.loop-i.invariant)
    ]

pub returns-then-not-add_link : goal.returns-then-not-add_link
returns-then-not-add_link c =
    let is : c.contains.result ≡ marked c.args.set.now c.loop-i.i = rw zero-add at c.contains.ensures in
    record {
      answers = sym (stops c.args.self.now.file.now c.args.self.now.n c.args.self.now.towns c.args.self.now.at (marked c.args.set.now) c.loop-i.i
          (sym is ∙ c.if-contains.true)
          (sym (c.add_link.ensures.answers (front (marked c.args.set.now) c.loop-i.i) c.loop-i.invariant
          (front_new (marked c.args.set.now) c.loop-i.i)) ∙ c.if-not-add_link.true));
      ready = λ e. absurd (false≢true e);
    }

pub returns : goal.returns
returns c =
    let r = front_all c.args.self.now.file.now c.args.self.now.n c.args.self.now.towns c.args.self.now.at (marked c.args.set.now) c.loop-i.i c.loop-i.state
    (omega arith) c.loop-i.invariant in
    record { answers = sym r.allowed; ready = λ e. r }
