use Rattle.std.proofs.Common.{subst, sym}
use Rattle.protocol_db.specs.Whole.{IsWhole}
use Rattle.protocol_db.proofs.WholeLemmas.{taken_whole}
use Rattle.protocol_db.proofs.CallLemmas.{none_first, none_taken, some_first, some_taken}
use Rattle.protocol_db.proofs.protocols.Protocols.take_notified.Goals as goal

pub invariant_of-self : goal.invariant_of-self
invariant_of-self c =
    subst IsWhole (sym (some_taken c.args.self.now c.args.registration c.in-Some.place c.self.inside.handles c.self.inside.registrations.items c.self.inside.made c.index_mut.result.now c.take_first.new.self c.place.result c.self.view_is c.place.ensures c.in-Some.is c.index_mut.ensures.value c.take_first.ensures.rest))
    (taken_whole c.args.self.now c.args.registration (rw (← c.self.view_is) c.self.invariant))

pub returns-in-None-clause-first : goal.returns-in-None-clause-first
returns-in-None-clause-first c = none_first c.args.self.now c.args.registration c.place.result c.place.ensures c.in-None.is

pub returns-in-None-clause-taken : goal.returns-in-None-clause-taken
returns-in-None-clause-taken c = none_taken c.args.self.now c.args.registration c.place.result c.place.ensures c.in-None.is

pub returns-in-Some-clause-first : goal.returns-in-Some-clause-first
returns-in-Some-clause-first c =
    some_first c.args.self.now c.args.registration c.in-Some.place c.self.inside.handles c.self.inside.registrations.items c.self.inside.made c.index_mut.result.now c.place.result c.take_first.result c.self.view_is c.place.ensures c.in-Some.is c.index_mut.ensures.value c.take_first.ensures.first

pub returns-in-Some-clause-taken : goal.returns-in-Some-clause-taken
returns-in-Some-clause-taken c =
    some_taken c.args.self.now c.args.registration c.in-Some.place c.self.inside.handles c.self.inside.registrations.items c.self.inside.made c.index_mut.result.now c.take_first.new.self c.place.result c.self.view_is c.place.ensures c.in-Some.is c.index_mut.ensures.value c.take_first.ensures.rest
