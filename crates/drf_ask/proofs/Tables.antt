-- The text of the answer to `?tables`.
use Rattle.std.proofs.Common.{◌≡◌, ℕ, List, [], ◌∷◌, ◌++◌, length, refl, ap, ◌∙◌, codes}
use Rattle.json.specs.Print.{escape_byte, quoted}
use Rattle.serde_json.specs.Written.{compact_text}
use Rattle.drf_bundle.specs.Quantities.{without_zeros}
use Rattle.drf_rows.specs.Held.{clients_of, cluster_total}
use Rattle.drf_rows.specs.LimitNumbers.{LimitNumbers}
use Rattle.drf_rows.specs.declared.rows.Rows.{Rows}
use Rattle.drf_ask.specs.Answer.{table_value, tables_value}
use Rattle.drf_ask.proofs.Texts.{then}

grouped : (a b c d e f g h : List ℕ)
    → (codes "{\"agents\":" ++ a) ++ ((codes ",\"clients\":" ++ b) ++ ((codes ",\"events\":" ++ c) ++ ((codes ",\"filters\":" ++ d) ++ ((codes ",\"frameworks\":" ++ e) ++ ((codes ",\"limits\":" ++ f) ++ ((codes ",\"scalar_names\":" ++ g) ++ ((codes ",\"weights\":" ++ h) ++ codes "}")))))))
    ≡ 123 ∷ (quoted (codes "agents") ++ (58 ∷ (a ++ (44 ∷ (quoted (codes "clients") ++ (58 ∷ (b ++ (44 ∷ (quoted (codes "events") ++ (58 ∷ (c ++ (44 ∷ (quoted (codes "filters") ++ (58 ∷ (d ++ (44 ∷ (quoted (codes "frameworks") ++ (58 ∷ (e ++ (44 ∷ (quoted (codes "limits") ++ (58 ∷ (f ++ (44 ∷ (quoted (codes "scalar_names") ++ (58 ∷ (g ++ (44 ∷ (quoted (codes "weights") ++ (58 ∷ (h ++ (125 ∷ []))))))))))))))))))))))))))))))))
unfolding escape_byte
grouped a b c d e f g h = refl

tables_text : (limits : LimitNumbers) (rows : Rows)
    → (codes "{\"agents\":" ++ compact_text (table_value (length rows.agents) limits.agents)) ++ ((codes ",\"clients\":" ++ compact_text (table_value (length (clients_of rows)) limits.clients)) ++ ((codes ",\"events\":" ++ compact_text (table_value rows.events limits.events)) ++ ((codes ",\"filters\":" ++ compact_text (table_value (length rows.filters) limits.filters)) ++ ((codes ",\"frameworks\":" ++ compact_text (table_value (length rows.frameworks) limits.frameworks)) ++ ((codes ",\"limits\":" ++ compact_text (table_value (length rows.limits) limits.limits)) ++ ((codes ",\"scalar_names\":" ++ compact_text (table_value (length (without_zeros (cluster_total rows.agents))) limits.scalar_names)) ++ ((codes ",\"weights\":" ++ compact_text (table_value (length rows.weights) limits.weights)) ++ codes "}")))))))
    ≡ compact_text (tables_value limits rows)
tables_text limits rows =
    grouped (compact_text (table_value (length rows.agents) limits.agents))
    (compact_text (table_value (length (clients_of rows)) limits.clients))
    (compact_text (table_value rows.events limits.events))
    (compact_text (table_value (length rows.filters) limits.filters))
    (compact_text (table_value (length rows.frameworks) limits.frameworks))
    (compact_text (table_value (length rows.limits) limits.limits))
    (compact_text (table_value (length (without_zeros (cluster_total rows.agents))) limits.scalar_names))
    (compact_text (table_value (length rows.weights) limits.weights))

-- the tables were appended one after another
pub tables_added : (limits : LimitNumbers) (rows : Rows) (t0 t1 t2 t3 t4 t5 t6 t7 t8 t9 : List ℕ) (r0 r1 r2 r3 r4 r5 r6 r7 l0 l1 l2 l3 l4 l5 l6 l7 : ℕ)
    → t1 ≡ t0 ++ (codes "{\"agents\":" ++ compact_text (table_value r0 l0))
    → t2 ≡ t1 ++ (codes ",\"clients\":" ++ compact_text (table_value r1 l1))
    → t3 ≡ t2 ++ (codes ",\"events\":" ++ compact_text (table_value r2 l2))
    → t4 ≡ t3 ++ (codes ",\"filters\":" ++ compact_text (table_value r3 l3))
    → t5 ≡ t4 ++ (codes ",\"frameworks\":" ++ compact_text (table_value r4 l4))
    → t6 ≡ t5 ++ (codes ",\"limits\":" ++ compact_text (table_value r5 l5))
    → t7 ≡ t6 ++ (codes ",\"scalar_names\":" ++ compact_text (table_value r6 l6))
    → t8 ≡ t7 ++ (codes ",\"weights\":" ++ compact_text (table_value r7 l7))
    → t9 ≡ t8 ++ codes "}"
    → r0 ≡ length rows.agents
    → r1 ≡ length (clients_of rows)
    → r2 ≡ rows.events
    → r3 ≡ length rows.filters
    → r4 ≡ length rows.frameworks
    → r5 ≡ length rows.limits
    → r6 ≡ length (without_zeros (cluster_total rows.agents))
    → r7 ≡ length rows.weights
    → l0 ≡ limits.agents
    → l1 ≡ limits.clients
    → l2 ≡ limits.events
    → l3 ≡ limits.filters
    → l4 ≡ limits.frameworks
    → l5 ≡ limits.limits
    → l6 ≡ limits.scalar_names
    → l7 ≡ limits.weights
    → t9 ≡ t0 ++ compact_text (tables_value limits rows)
tables_added limits rows t0 t1 t2 t3 t4 t5 t6 t7 t8 t9 r0 r1 r2 r3 r4 r5 r6 r7 l0 l1 l2 l3 l4 l5 l6 l7 a0 a1 a2 a3 a4 a5 a6 a7 end e0 e1 e2 e3 e4 e5 e6 e7 m0 m1 m2 m3 m4 m5 m6 m7 =
    let b0 : t1 ≡ t0 ++ (codes "{\"agents\":" ++ compact_text (table_value (length rows.agents) limits.agents)) = a0 ∙ (λ i. t0 ++ (codes "{\"agents\":" ++ compact_text (table_value (e0 i) (m0 i)))) in
    let b1 : t2 ≡ t1 ++ (codes ",\"clients\":" ++ compact_text (table_value (length (clients_of rows)) limits.clients)) = a1 ∙ (λ i. t1 ++ (codes ",\"clients\":" ++ compact_text (table_value (e1 i) (m1 i)))) in
    let b2 : t3 ≡ t2 ++ (codes ",\"events\":" ++ compact_text (table_value (rows.events) limits.events)) = a2 ∙ (λ i. t2 ++ (codes ",\"events\":" ++ compact_text (table_value (e2 i) (m2 i)))) in
    let b3 : t4 ≡ t3 ++ (codes ",\"filters\":" ++ compact_text (table_value (length rows.filters) limits.filters)) = a3 ∙ (λ i. t3 ++ (codes ",\"filters\":" ++ compact_text (table_value (e3 i) (m3 i)))) in
    let b4 : t5 ≡ t4 ++ (codes ",\"frameworks\":" ++ compact_text (table_value (length rows.frameworks) limits.frameworks)) = a4 ∙ (λ i. t4 ++ (codes ",\"frameworks\":" ++ compact_text (table_value (e4 i) (m4 i)))) in
    let b5 : t6 ≡ t5 ++ (codes ",\"limits\":" ++ compact_text (table_value (length rows.limits) limits.limits)) = a5 ∙ (λ i. t5 ++ (codes ",\"limits\":" ++ compact_text (table_value (e5 i) (m5 i)))) in
    let b6 : t7 ≡ t6 ++ (codes ",\"scalar_names\":" ++ compact_text (table_value (length (without_zeros (cluster_total rows.agents))) limits.scalar_names)) = a6 ∙ (λ i. t6 ++ (codes ",\"scalar_names\":" ++ compact_text (table_value (e6 i) (m6 i)))) in
    let b7 : t8 ≡ t7 ++ (codes ",\"weights\":" ++ compact_text (table_value (length rows.weights) limits.weights)) = a7 ∙ (λ i. t7 ++ (codes ",\"weights\":" ++ compact_text (table_value (e7 i) (m7 i)))) in
    then t0 _ _ b0 (then t1 _ _ b1 (then t2 _ _ b2 (then t3 _ _ b3 (then t4 _ _ b4 (then t5 _ _ b5 (then t6 _ _ b6 (then t7 _ _ b7 end)))))))
    ∙ ap (λ text. t0 ++ text) (tables_text limits rows)
