-- What is gathered, and what the rows of an event share, as values.
use Rattle.po_rules.specs.Gathering as po
use Rattle.po_rules.specs.Parts.{EventParts, base, path_with}
use Rattle.po_machine.specs.declared.gathered.Gathered.{Gathered}
use Rattle.po_machine.specs.declared.parts.SharedParts.{SharedParts}

abbrev pub view : Gathered → po.Gathered
view g = record { obligations = g.obligations.items; nodes = g.nodes }

abbrev pub parts_in : SharedParts → EventParts
parts_in p = record {
  path = path_with p.machine.now.name p.event.now.name;
  env = p.env;
  base = base p.machine.now p.event.now;
  choices = p.choices.items;
  witnesses = p.witnesses.items;
  after = p.after.items;
}
