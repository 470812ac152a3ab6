use Rattle.std.proofs.Common.{◌∷◌, refl}
use Rattle.tree.proofs.Turns.{passed-over}
use Rattle.tree.proofs.state.Walk.pass.Goals as goal

pub returns-in-Some : goal.returns-in-Some
returns-in-Some c =
    let p = c.in-Some.ensures.passes in
    record { follows = (p.0, λ rest. passed-over c.args.self.now _ (c.args.node.now ∷ rest) rest c.requires.phase c.requires.phase refl refl (λ n made ρ. p.1 n made ρ rest)) }
