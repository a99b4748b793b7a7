-- The name of a component is a name without a prime.
use Rattle.std.proofs.Common.{◌≡◌, ℕ, ◌≤◌, true, false, ◌&&◌, List, length, IsTrue}
use Rattle.std.specs.Prelude.{nat_le}
use Rattle.std.proofs.lemmas.Bool.{leb-true}
use Rattle.formula_core.specs.Names.{is_identifier}
use Rattle.formula_core.specs.Texts.{is_po_name}
use Rattle.formula_core.proofs.Weakening.{first_true, second_true}
use Rattle.proof_codec.specs.declared.reader.ReadFault.{ReadFault}
use Rattle.proof_codec.specs.Forms.{BeginsNone}
use Rattle.proof_codec.specs.Private.{IsReadAs, Misses}
use Rattle.proof_codec.specs.Numbers.{text_bytes}
use Rattle.proof_codec.specs.Names.{IsGoodName}
use Rattle.proof_codec.specs.Entries.{IsComponentName}
use Rattle.proof_codec.proofs.Narrow.{narrow_read, narrow_out, narrow_none}

pub component_read : (old name new : List ℕ) → IsReadAs IsGoodName text_bytes old name new → IsTrue (is_identifier name) → IsReadAs IsComponentName text_bytes old name new
component_read old name new read is = narrow_read IsGoodName IsComponentName text_bytes (λ x good. good.0) old new name read (read.here.good, is)

pub no_component : (old name new : List ℕ) → IsReadAs IsGoodName text_bytes old name new → is_identifier name ≡ false → BeginsNone IsComponentName text_bytes old
no_component old name new read bad = narrow_out IsGoodName IsComponentName text_bytes (λ x good. good.0) old new name read (λ good. let is : is_identifier name ≡ true = good.1 in cc)

pub no_name_there : (fault : ReadFault) (old : List ℕ) → Misses IsGoodName text_bytes old fault → Misses IsComponentName text_bytes old fault
no_name_there fault old bad = narrow_none IsGoodName IsComponentName text_bytes (λ x good. good.0) old old fault bad

pub po_name_short : (name : List ℕ) → IsTrue (is_po_name name) → length name ≤ 300
po_name_short name is = leb-true _ _ (second_true (nat_le 1 (length name)) _ (first_true (nat_le 1 (length name) && nat_le (length name) 300) _ is))
