-- The number and the name of each refusal.
use Rattle.std.specs.Prelude.{ℕ, List, [], ◌∷◌, codes, map}
use Rattle.drf_role.specs.Text.{Text}
use Rattle.drf_rows.specs.Refusal.{refusal_name, refusal_number}
use Rattle.drf_rows.specs.declared.reply.Refusal.{Refusal}
use Rattle.drf_rows.specs.declared.reply.Refusal.TheVariants.{HistoryFull, BadMoment, UnknownAgent, KnownAgent, UnknownFramework, KnownFramework, UnknownOffer, NotYours, UnknownTask, KnownTask, NotInRole, DefaultRole, Empty, NotUnreserved, NotCovered, OverLimit, BadWeight, TooLarge, TooMany, RoleInUse}

-- all refusals
abbrev every_refusal : List Refusal
every_refusal =
    HistoryFull
    ∷ BadMoment
    ∷ UnknownAgent
    ∷ KnownAgent
    ∷ UnknownFramework
    ∷ KnownFramework
    ∷ UnknownOffer
    ∷ NotYours
    ∷ UnknownTask
    ∷ KnownTask
    ∷ NotInRole
    ∷ DefaultRole
    ∷ Empty
    ∷ NotUnreserved
    ∷ NotCovered
    ∷ OverLimit
    ∷ BadWeight
    ∷ TooLarge
    ∷ TooMany
    ∷ RoleInUse
    ∷ []

-- their numbers and names in the definition
abbrev pub refusals_dialogue : List (ℕ × Text)
refusals_dialogue = map (λ r. (refusal_number r, refusal_name r)) every_refusal

-- their numbers and names in the documents
abbrev pub refusals_documented : List (ℕ × Text)
refusals_documented =
    (1, codes "HistoryFull")
    ∷ (2, codes "BadMoment")
    ∷ (3, codes "UnknownAgent")
    ∷ (4, codes "KnownAgent")
    ∷ (5, codes "UnknownFramework")
    ∷ (6, codes "KnownFramework")
    ∷ (7, codes "UnknownOffer")
    ∷ (8, codes "NotYours")
    ∷ (9, codes "UnknownTask")
    ∷ (10, codes "KnownTask")
    ∷ (11, codes "NotInRole")
    ∷ (12, codes "DefaultRole")
    ∷ (13, codes "Empty")
    ∷ (14, codes "NotUnreserved")
    ∷ (15, codes "NotCovered")
    ∷ (16, codes "OverLimit")
    ∷ (17, codes "BadWeight")
    ∷ (18, codes "TooLarge")
    ∷ (19, codes "TooMany")
    ∷ (20, codes "RoleInUse")
    ∷ []
