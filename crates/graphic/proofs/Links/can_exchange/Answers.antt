-- Labels that differ answer at once; else the rows do.
use Rattle.std.proofs.Common.{◌≡◌, ℕ, Bool, not, ◌||◌, eqb, arith}
use Rattle.sets.specs.Bits.{marked}
use Rattle.graphic.proofs.Kept.{exchange_answer}
use Rattle.graphic.proofs.Links.can_exchange.Goals as goal

pub returns-then-state-u : goal.returns-then-state-u
returns-then-state-u c =
    apart _ _ _ _ c.if-state-u.true
    (exchange_answer c.args.self.now.file.now c.args.self.now.n c.args.self.now.towns c.args.self.now.at (marked c.args.set.now) c.args.state.now
    c.args.self.now.well c.requires.ready c.args.x c.args.y c.ends-u.result.0 c.ends-u.result.1
    c.requires.new.0 c.requires.old.0 c.requires.new.1 c.requires.old.1 c.ends-u.ensures.first c.ends-u.ensures.second)
  where
    apart : (a b : ℕ) (q z : Bool) → (a ≡ b → ⊥) → (not (eqb a b) || q) ≡ z → not (eqb a b) ≡ z
    apart a b q z h k = grind arith

pub returns-else-state-u : goal.returns-else-state-u
returns-else-state-u c =
    same _ _ _ _ _ c.if-state-u.false c.rows_differ.ensures
    (exchange_answer c.args.self.now.file.now c.args.self.now.n c.args.self.now.towns c.args.self.now.at (marked c.args.set.now) c.args.state.now
    c.args.self.now.well c.requires.ready c.args.x c.args.y c.ends-u.result.0 c.ends-u.result.1
    c.requires.new.0 c.requires.old.0 c.requires.new.1 c.requires.old.1 c.ends-u.ensures.first c.ends-u.ensures.second)
  where
    same : (a b : ℕ) (r q z : Bool) → a ≡ b → r ≡ q → (not (eqb a b) || q) ≡ z → r ≡ z
    same a b r q z h e k = grind arith
