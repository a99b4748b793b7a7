-- Sequents may be handed to other threads and shared with them, and rules, trees and proofs may be handed to them.
use denote.Hole.{as_row}
use denote.Builtin.{u32, i128}
use denote.Struct.Field.{u8-field}
use denote.Struct.Declared as S
use denote.Enum.Declared as E
use denote.Param.Send.{IsSend, enum_send, struct_send, recorded_send, sendable}
use denote.Param.SendFields.{declared_send, variants_send}
use Rattle.std.specs.contracts.option.Option as Option
use Rattle.formula_core.specs.contracts.text.PoName as PoName
use Rattle.formula_core.specs.contracts.raw.Raw as Raw
use Rattle.formula_core.specs.contracts.formula.Formula as Formula
use Rattle.formula_core.specs.contracts.list.List as List
use Rattle.formula_core.proofs.list.List.TheSendSync as lists
use Rattle.formula_core.proofs.text.PoName.TheSendSync as po_names
use Rattle.rule_table.specs.contracts.kind.RuleKind as RuleKind
use Rattle.rule_table.specs.contracts.rule.Antecedent as Antecedent
use Rattle.rule_table.specs.contracts.rule.Rule as Rule
use Rattle.sequent_core.specs.contracts.hint.Hint as Hint
use Rattle.sequent_core.specs.contracts.prover.Attempt as Attempt
use Rattle.sequent_core.specs.contracts.sequent.Obligation as Obligation
use Rattle.sequent_core.specs.contracts.sequent.Sequent as Sequent
use Rattle.sequent_core.specs.contracts.sequent.Ticket as Ticket
use Rattle.sequent_core.specs.contracts.tree.Tree as Tree
use Rattle.sequent_core.proofs.tree.Tree.TheLaws.TheKnot as trees
use Rattle.proof_entries.specs.contracts.proof.Proof as Proof
use Rattle.proof_entries.proofs.proof.Origin.TheSendSync as origins
use Rattle.proof_deps.specs.contracts.deps.Deps as Deps
use Rattle.project_session.proofs.CrossingParts.{Crosses, struct_crosses}
use Rattle.project_session.proofs.CrossingFormulas.{list_crosses, formula, formula_list, typed_names, raw}
use Rattle.project_session.proofs.CrossingModels.{env, names}

pub po_name : Crosses PoName.the_row
po_name = (po_names.the_send, po_names.the_sync)

pub sequent : Crosses Sequent.the_row
sequent = struct_crosses Sequent.the_type (env, (formula_list, (formula, tt)))

pub obligation : Crosses Obligation.the_row
obligation = struct_crosses Obligation.the_type (po_name, (sequent, tt))

byte : IsSend (as_row u8-field)
byte = search sendable

pub words : IsSend (List.the_row u32)
words = lists.the_send u32 (search sendable)

multipliers : IsSend (List.the_row i128)
multipliers = lists.the_send i128 (search sendable)

-- before a value is read as one of the declared type, as a tree asks of its parts
bare_kind : IsSend (RuleKind.the_field).row
bare_kind = let number : IsSend u8-field.row = search sendable in
    enum_send (E.shape RuleKind.the_type) (
      tt,
      (
        tt,
        (
          tt,
          (
            tt,
            (
              tt,
              (
                tt,
                (
                  tt,
                  (
                    tt,
                    (
                      tt,
                      (
                        tt,
                        (
                          tt,
                          (
                            tt,
                            (
                              tt,
                              (
                                tt,
                                (
                                  tt,
                                  (
                                    tt,
                                    (
                                      tt,
                                      (
                                        (formula_list.0, tt),
                                        (
                                          (formula_list.0, tt),
                                          (tt, (tt, (tt, (tt, (tt, (tt, (tt, (tt, (tt, ((number, (words, tt)), ((number, (words, tt)), ((multipliers, tt), (tt, (tt, (tt, (tt, tt)))))))))))))))),
                                        ),
                                      ),
                                    ),
                                  ),
                                ),
                              ),
                            ),
                          ),
                        ),
                      ),
                    ),
                  ),
                ),
              ),
            ),
          ),
        ),
      ),
    )

bare_goal : IsSend (Option.the_field Formula.the_row).row
bare_goal = enum_send (E.shape (Option.the_type Formula.the_row)) (tt, ((formula.0, tt), tt))

goal : IsSend (Option.the_row Formula.the_row)
goal = recorded_send _ _ _ (Option.the_type Formula.the_row).to_one bare_goal

antecedent : IsSend Antecedent.the_row
antecedent = declared_send Antecedent.the_type (typed_names.0, (formula_list.0, (goal, tt)))

bare_rule : IsSend (Rule.the_field).row
bare_rule = struct_send (S.shape Rule.the_type) (bare_kind, (bare_goal, (formula_list.0, (typed_names.0, (lists.the_send Antecedent.the_row antecedent, tt)))))

rule : IsSend Rule.the_row
rule = recorded_send _ _ _ (Rule.the_type).to_one bare_rule

inner_tree : IsSend Tree.the_hole
inner_tree = trees.hole_send-Tree bare_rule lists.the_send

tree : IsSend Tree.the_row
tree = variants_send Tree.enum (tt, ((rule, (lists.the_send Tree.the_hole inner_tree, tt)), tt))

pub attempt : IsSend Attempt.the_row
attempt = variants_send Attempt.enum ((tree, tt), (tt, (tt, tt)))

pub proof : IsSend Proof.the_row
proof = declared_send Proof.the_type (tree, (origins.the_send, tt))

pub deps : IsSend Deps.the_row
deps = declared_send Deps.the_type (goal, (formula_list.0, (typed_names.0, (names.0, tt))))

pub hint : IsSend Hint.the_row
hint = declared_send Hint.the_type (words, (multipliers, (names.0, ((list_crosses Raw.the_row raw).0, (byte, (words, tt))))))

pub ticket : IsSend Ticket.the_row
ticket = declared_send Ticket.the_type (search sendable, (po_name.0, (sequent.0, tt)))
