use Rattle.std.proofs.Common.{IsTrue, subst, rules}
use Rattle.outside.specs.Private.{are_possible}
use Rattle.outside.specs.DiskMemory.{first_of}
use Rattle.outside.proofs.Stopped.{image_of, moment_of, extreme_of, filled_of}
use Rattle.outside.proofs.memory_disk.MemoryDisk.image.Goals as goal

pub returns-clause-image : goal.returns-clause-image
returns-clause-image c =
    let d = c.args.self.now in
    let possible = subst (λ d. IsTrue (are_possible (first_of d) d.kept)) c.self.view_is c.self.inside.disk.possible in
    image_of c.args.fill c.args.long (first_of d) d.kept c.args.call c.in_ok-left.left.items c.in_ok-right.right.items possible (search rules) (search rules)

pub returns-clause-moment : goal.returns-clause-moment
returns-clause-moment c =
    let d = c.args.self.now in
    let possible = subst (λ d. IsTrue (are_possible (first_of d) d.kept)) c.self.view_is c.self.inside.disk.possible in
    moment_of c.args.fill c.args.long (first_of d) d.kept c.args.call c.in_ok-left.left.items c.in_ok-right.right.items possible (search rules) (search rules)

pub returns-clause-extreme : goal.returns-clause-extreme
returns-clause-extreme c =
    let d = c.args.self.now in
    let possible = subst (λ d. IsTrue (are_possible (first_of d) d.kept)) c.self.view_is c.self.inside.disk.possible in
    extreme_of c.args.fill c.args.long (first_of d) d.kept c.args.call c.in_ok-left.left.items c.in_ok-right.right.items possible (search rules) (search rules)

pub returns-clause-filled : goal.returns-clause-filled
returns-clause-filled c =
    let d = c.args.self.now in
    let possible = subst (λ d. IsTrue (are_possible (first_of d) d.kept)) c.self.view_is c.self.inside.disk.possible in
    filled_of c.args.fill c.args.long (first_of d) d.kept c.args.call c.in_ok-left.left.items c.in_ok-right.right.items possible (search rules) (search rules)
