use Rattle.std.proofs.Common.{[], ◌∷◌, ap, sym, ◌∙◌}
use Rattle.std.specs.Prelude.{codes}
use Rattle.std.proofs.lemmas.Slice.Eq.{slice_eq-Decides}
use Rattle.std.proofs.lemmas.Bool.Decides.{Decides-eqb}
use Rattle.rodin_cli.proofs.Words.{one_word}
use Rattle.rodin_cli.proofs.command.is_check.Goals as goal

pub returns-in-len1 : goal.returns-in-len1
returns-in-len1 c =
    let same = slice_eq-Decides Decides-eqb c.as_str.result.now (codes "check") c.eq.result c.eq.ensures in
    let one = one_word c.args.words.now c.word-item.result c.in-len1.len_at_least c.in-len1.len_below c.word-item.is in (
      λ t. one ∙ ap (λ b. b ∷ []) (sym c.as_str.ensures.value ∙ same.0 t),
      λ e. let both = sym one ∙ e in let value = c.as_str.ensures.value in same.1 (cc (both, value)),
    )
