use Rattle.std.proofs.Common.{◌≡◌, Some, refl, rules}
use Rattle.ps_hub.specs.Hubs.{site_of}
use Rattle.ps_hub.proofs.PassLemmas.{room_again}
use Rattle.ps_hub.proofs.EnterLemmas.{found_of}
use Rattle.ps_hub.proofs.hub.Hub.ask.Goals as goal

pub returns-in-Err-Busy-clause-of : goal.returns-in-Err-Busy-clause-of
returns-in-Err-Busy-clause-of c = λ conn p. room_again c.args.self.now conn c.args.pass.now _ c.try_read.ensures.same.1 c.try_read.ensures.same.2 c.try_read.ensures.grows
    (c.try_read.ensures.of conn (c.args.pass.now.pass.0, site_of c.args.self.now c.args.pass.now.number)) p

pub returns-in-Err-NoMemory-clause-of : goal.returns-in-Err-NoMemory-clause-of
returns-in-Err-NoMemory-clause-of c = λ conn p. room_again c.args.self.now conn c.args.pass.now _ c.try_read.ensures.same.1 c.try_read.ensures.same.2 c.try_read.ensures.grows
    (c.try_read.ensures.of conn (c.args.pass.now.pass.0, site_of c.args.self.now c.args.pass.now.number)) p

pub returns-then-not-is_found-clause-of : goal.returns-then-not-is_found-clause-of
returns-then-not-is_found-clause-of c = λ conn p. room_again c.args.self.now conn c.args.pass.now _ c.try_read.ensures.same.1 c.try_read.ensures.same.2 c.try_read.ensures.grows
    (c.try_read.ensures.of conn (c.args.pass.now.pass.0, site_of c.args.self.now c.args.pass.now.number)) p

pub returns-clause-of : goal.returns-clause-of
returns-clause-of c =
    let found : c.try_read.new.self.cursor.id ≡ Some c.args.name = search rules in
    λ conn p. found_of c.args.self.now conn c.args.pass.now c.try_read.new.self _ c.args.name c.in-Ok.ensures.does.1.0 c.requires.battle c.try_read.ensures.same.1
    c.in-Ok.ensures.does.1.1 found refl p (room_again c.args.self.now conn c.args.pass.now _ c.try_read.ensures.same.1 c.try_read.ensures.same.2 c.try_read.ensures.grows
    (c.try_read.ensures.of conn (c.args.pass.now.pass.0, site_of c.args.self.now c.args.pass.now.number)) p)
