-- No node: refused; else what the list itself makes of the number, put back at its index (`Served`).
use Rattle.units.proofs.Common.{refl}
use Rattle.meaning.proofs.Terms.{full, acknowledge}
use Rattle.machine.proofs.Terms.{machine}
use Rattle.promise.proofs.Oldest.{acked_7}
use Rattle.handover.proofs.Served.{slot_out, Found, found, refusing}
use Rattle.handover.proofs.acknowledge.Goals as goal

pub returns-then-i-ge-NODES : goal.returns-then-i-ge-NODES
returns-then-i-ge-NODES c =
    let m = machine c.args.s c.args.store.now c.args.plaques.now in
    refusing full m c.requires (acknowledge _ _) 7 _ c.refused.ensures
    (acked_7 full m c.requires _ _ (slot_out c.args.node c.node_slot-i.result c.node_slot-i.ensures c.if-i-ge-NODES.true))

pub acknowledged-r-requires : goal.acknowledged-r-requires
acknowledged-r-requires c =
    let m = machine c.args.s c.args.store.now c.args.plaques.now in
    let f : Found m c.args.node c.node_slot-i.result =
    found m c.requires c.args.node c.node_slot-i.result c.node_slot-i.ensures c.if-i-ge-NODES.false in
    record {
      number = c.args.node;
      is = f.is;
      at = f.slot;
      state = c.args.s;
      memory = c.args.plaques.now;
      slot = record { node = f.at; helds = refl };
      fit = c.requires;
    }

pub returns : goal.returns
returns c =
    let m = machine c.args.s c.args.store.now c.args.plaques.now in
    let f : Found m c.args.node c.node_slot-i.result =
    found m c.requires c.args.node c.node_slot-i.result c.node_slot-i.ensures c.if-i-ge-NODES.false in
    c.acknowledged-r.ensures c.args.node f.is f.slot c.args.s c.args.plaques.now (record { node = f.at; helds = refl }) c.requires
