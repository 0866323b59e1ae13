-- Audit lines, and the JSON tokens that are written for them.
use Rattle.std.specs.Prelude.{◌≡◌, List, [], ◌∷◌, ◌++◌, Result, Ok, Err, map, filter, IfOk, MatchResult, Contains}
use Rattle.std.specs.Global.{Vec}
use Rattle.std.specs.List.{AllZip}
use Rattle.std.proofs.Common.{refl, ap, subst, ◌∙◌}
use Rattle.std.proofs.lemmas.List.{length-map}
use Rattle.json.specs.Token.{Token}
use Rattle.json.specs.Written.{Written, Writes}
use Rattle.drf_bundle.specs.Taken.{rest_of_all}
use Rattle.drf_rows.specs.Cycle.{free_of}
use Rattle.drf_rows.specs.Holdings.{holdings_of, is_on, parts_on}
use Rattle.drf_rows.specs.declared.rows.AgentRow.{AgentRow}
use Rattle.drf_rows.specs.declared.rows.Rows.{Rows}
use Rattle.drf_audit.specs.Audit.{line_of, line_with}
use Rattle.drf_audit.specs.declared.agents.AuditLine.{AuditLine}

-- exactly these tokens were written
pub record IsText (w : Written) (tokens : List Token) : Type 0 where
  pub before : w.before ≡ []
  pub all : w.tokens ≡ tokens

-- one more token
pub next : {E : Type 0} {u : Unit {0}} {old new : Written} {t : Token} {ts : List Token}
    → IsText old ts → Writes {E = E} (Ok u) old new t → IsText new (ts ++ t ∷ [])
next {t = t} so_far w = record { before = w.room.0 ∙ so_far.before; all = w.ok ∙ ap (λ (ts : List Token). ts ++ t ∷ []) so_far.all }

-- if each line is the value of a function at its agent, all lines are
all_of : {Y : Type 0} (E : Type 0) (f : AgentRow → Y) (agents : List AgentRow) (ys : List Y)
    → AllZip (λ agent (r : Result Y E). IfOk r (λ y. y ≡ f agent)) agents (map Ok ys) → ys ≡ map f agents
all_of E f [] [] each = refl
all_of E f [] (y ∷ ys) each = absurd each
all_of E f (agent ∷ agents) [] each = absurd each
all_of E f (agent ∷ agents) (y ∷ ys) each = λ i. each.0 i ∷ all_of E f agents ys each.1 i

pub collected : {E : Type 0} (r : Result (Vec AuditLine) E) (f : AgentRow → AuditLine) (agents : List AgentRow) (lines : List (Result AuditLine E))
    → AllZip (λ agent (line : Result AuditLine E). IfOk line (λ l. l ≡ f agent)) agents lines
    → MatchResult r (λ v. (ls : List AuditLine) × (lines ≡ map Ok ls) × (v.items ≡ ls)) (λ e. Contains lines (Err e))
    → IfOk r (λ v. v.items ≡ map f agents)
collected {E} (Ok v) f agents lines each made =
    made.2 ∙ all_of E f agents made.0
    (subst (λ (ls : List (Result AuditLine E)). AllZip (λ agent (line : Result AuditLine E). IfOk line (λ l. l ≡ f agent)) agents ls) made.1 each)
collected (Err e) f agents lines each made = tt

-- the line that is made from the bundles held on the agent is its line
pub line_is : (rows : Rows) (agent : AgentRow) → line_with agent (parts_on agent.name (holdings_of rows)) ≡ line_of rows agent
unfolding free_of
line_is rows agent =
    let out = length-map (filter (is_on agent.name) (holdings_of rows)) (λ h. h.bundle) in
    λ i. record { agent = agent.name; total = agent.total; free = rest_of_all agent.total (parts_on agent.name (holdings_of rows)); out = out i }
