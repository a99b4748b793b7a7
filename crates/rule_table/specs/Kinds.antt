-- The numbers of the kinds of rule.
use Rattle.std.specs.Prelude.{ℕ}
use Rattle.rule_table.specs.declared.kind.RuleKind.{RuleKind}
use Rattle.rule_table.specs.declared.kind.RuleKind.TheVariants as kind

-- the number of a kind
abbrev pub kind_number : RuleKind → ℕ
kind_number kind.Hyp = 1
kind_number kind.Top = 2
kind_number kind.Bot = 3
kind_number kind.Contr = 4
kind_number kind.AndR = 5
kind_number kind.AndL = 6
kind_number kind.OrR = 7
kind_number kind.OrL = 8
kind_number kind.ImpR = 9
kind_number kind.ImpL = 10
kind_number kind.Mp = 11
kind_number kind.IffR = 12
kind_number kind.IffL = 13
kind_number kind.NotR = 14
kind_number kind.NotL = 15
kind_number kind.Contra = 16
kind_number kind.AllR = 17
kind_number (kind.AllL terms) = 18
kind_number (kind.ExR terms) = 19
kind_number kind.ExL = 20
kind_number kind.Cut = 21
kind_number kind.Cases = 22
kind_number kind.Review = 23
kind_number kind.EqRefl = 24
kind_number kind.EqGoal = 25
kind_number kind.EqHyp = 26
kind_number kind.BoolCases = 27
kind_number kind.BoolDiff = 28
kind_number (kind.RwGoal law place) = 29
kind_number (kind.RwHyp law place) = 30
kind_number (kind.Linear multipliers) = 31
kind_number kind.CardNat = 32
kind_number kind.FunIn = 33
kind_number kind.FunEq = 34
kind_number kind.OverOther = 35
