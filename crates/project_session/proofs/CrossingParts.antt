-- Which types may be handed to another thread, and which may be shared with one as well, from their parts.
use mathlib.Core.List.{List, [], ◌∷◌}
use denote.RattleType.{RattleType}
use denote.Struct.Declared as S
use denote.Struct.Field.{Field}
use denote.Struct.Tuple.{Tuple}
use denote.Enum.Declared as E
use denote.Param.Send.{IsSend, IsSync, sendable}
use denote.Param.SendFields.{FieldsHave, VariantsHave, declared_send, declared_sync, variants_send, variants_sync}
use Rattle.std.proofs.Crossing.{crosses, Vec-send, Vec-sync, Arc-send, Arc-sync}
use Rattle.std.specs.contracts.alloc.Global as Global
use Rattle.std.specs.contracts.impls.GlobalAllocator.TheImpl.{ghosts}
use Rattle.std.specs.contracts.sync.Arc as Arc
use Rattle.std.specs.contracts.vec.Vec as Vec
use Rattle.std.specs.contracts.option.Option as options

-- a type whose values may be handed over and shared
abbrev pub Crosses : RattleType → Type 0
Crosses R = IsSend R × IsSync R

fields_send : (Fs : List Field) → FieldsHave Crosses Fs → FieldsHave IsSend Fs
fields_send [] s = tt
fields_send (F ∷ Fs) s = (s.0.0, fields_send Fs s.1)

fields_sync : (Fs : List Field) → FieldsHave Crosses Fs → FieldsHave IsSync Fs
fields_sync [] s = tt
fields_sync (F ∷ Fs) s = (s.0.1, fields_sync Fs s.1)

all_send : (Fss : List (List Field)) → VariantsHave Crosses Fss → VariantsHave IsSend Fss
all_send [] s = tt
all_send (Fs ∷ Fss) s = (fields_send Fs s.0, all_send Fss s.1)

all_sync : (Fss : List (List Field)) → VariantsHave Crosses Fss → VariantsHave IsSync Fss
all_sync [] s = tt
all_sync (Fs ∷ Fss) s = (fields_sync Fs s.0, all_sync Fss s.1)

pub struct_crosses : (T : S.Declared) → FieldsHave Crosses T.parts → Crosses (S.row T)
struct_crosses T s = (declared_send T (fields_send T.parts s), declared_sync T (fields_sync T.parts s))

pub enum_crosses : (N : E.Record) → VariantsHave Crosses N.parts → Crosses (E.row (E.declared N))
enum_crosses N s = (variants_send N (all_send N.parts s), variants_sync N (all_sync N.parts s))

pub option_send : (R : RattleType) → IsSend R → IsSend (options.the_row R)
option_send R s = search (sendable, crosses) depth 20

pub option_sync : (R : RattleType) → IsSync R → IsSync (options.the_row R)
option_sync R s = search (sendable, crosses) depth 20

pub option_crosses : (R : RattleType) → Crosses R → Crosses (options.the_row R)
option_crosses R s = (option_send R s.0, option_sync R s.1)

pub pair_send : (R S : RattleType) → IsSend R → IsSend S → IsSend (Tuple (R ∷ S ∷ []))
pair_send R S r s = search (sendable, crosses) depth 20

pair_sync : (R S : RattleType) → IsSync R → IsSync S → IsSync (Tuple (R ∷ S ∷ []))
pair_sync R S r s = search (sendable, crosses) depth 20

pub pair_crosses : (R S : RattleType) → Crosses R → Crosses S → Crosses (Tuple (R ∷ S ∷ []))
pair_crosses R S r s = (pair_send R S r.0 s.0, pair_sync R S r.1 s.1)

pub vec_crosses : (R : RattleType) → Crosses R → Crosses (Vec.the_row R Global.the_row ghosts)
vec_crosses R s = (Vec-send R s.0, Vec-sync R s.1)

pub arc_crosses : (R : RattleType) → Crosses R → Crosses (Arc.the_row R Global.the_row ghosts)
arc_crosses R s = (Arc-send R s.0 s.1, Arc-sync R s.0 s.1)
