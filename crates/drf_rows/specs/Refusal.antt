-- The numbers and the names of refusals in replies.
use Rattle.std.specs.Prelude.{ℕ, codes}
use Rattle.drf_role.specs.Text.{Text}
use Rattle.drf_rows.specs.declared.reply.Refusal.{Refusal}
use Rattle.drf_rows.specs.declared.reply.Refusal.TheVariants.{HistoryFull, BadMoment, UnknownAgent, KnownAgent, UnknownFramework, KnownFramework, UnknownOffer, NotYours, UnknownTask, KnownTask, NotInRole, DefaultRole, Empty, NotUnreserved, NotCovered, OverLimit, BadWeight, TooLarge, TooMany, RoleInUse}

-- the number of a refusal; if several cases hold, the one with the least number is the reply
abbrev pub refusal_number : Refusal → ℕ
refusal_number HistoryFull = 1
refusal_number BadMoment = 2
refusal_number UnknownAgent = 3
refusal_number KnownAgent = 4
refusal_number UnknownFramework = 5
refusal_number KnownFramework = 6
refusal_number UnknownOffer = 7
refusal_number NotYours = 8
refusal_number UnknownTask = 9
refusal_number KnownTask = 10
refusal_number NotInRole = 11
refusal_number DefaultRole = 12
refusal_number Empty = 13
refusal_number NotUnreserved = 14
refusal_number NotCovered = 15
refusal_number OverLimit = 16
refusal_number BadWeight = 17
refusal_number TooLarge = 18
refusal_number TooMany = 19
refusal_number RoleInUse = 20

-- the name of a refusal
abbrev pub refusal_name : Refusal → Text
refusal_name HistoryFull = codes "HistoryFull"
refusal_name BadMoment = codes "BadMoment"
refusal_name UnknownAgent = codes "UnknownAgent"
refusal_name KnownAgent = codes "KnownAgent"
refusal_name UnknownFramework = codes "UnknownFramework"
refusal_name KnownFramework = codes "KnownFramework"
refusal_name UnknownOffer = codes "UnknownOffer"
refusal_name NotYours = codes "NotYours"
refusal_name UnknownTask = codes "UnknownTask"
refusal_name KnownTask = codes "KnownTask"
refusal_name NotInRole = codes "NotInRole"
refusal_name DefaultRole = codes "DefaultRole"
refusal_name Empty = codes "Empty"
refusal_name NotUnreserved = codes "NotUnreserved"
refusal_name NotCovered = codes "NotCovered"
refusal_name OverLimit = codes "OverLimit"
refusal_name BadWeight = codes "BadWeight"
refusal_name TooLarge = codes "TooLarge"
refusal_name TooMany = codes "TooMany"
refusal_name RoleInUse = codes "RoleInUse"
