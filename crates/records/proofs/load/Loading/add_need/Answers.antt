use Rattle.std.proofs.Common.{◌<◌, length, arith, length-set}
use Rattle.records.proofs.Slots.{blank-more}
use Rattle.records.proofs.load.Loading.add_need.Goals as goal

pub invariant_of-self : goal.invariant_of-self
invariant_of-self g c =
    let within = c.args.self.now.within in
    let lt : c.args.self.now.used < length c.args.self.now.slots.now = omega arith in
    record {
      within = simp length-set (omega arith);
      rest = blank-more c.args.self.now.slots.now c.args.self.now.used c.args.need lt c.args.self.now.rest;
    }
