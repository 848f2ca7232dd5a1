-- What the calls of tables ensure, at the tables and answers of a request.
use Rattle.std.proofs.Common.{◌≡◌, ℕ, Bool, List, Option, subst}
use Rattle.hash_table.specs.declared.put.Put.{Put}
use Rattle.hash_table.specs.declared.table.Table.{Table}
use Rattle.hash_table.specs.Table.{FindsAll, FitsTable, InsertsAll, RemovesAll}

pub finds_at : {t u : Table} {a b : List ℕ} {key k : ℕ} {r o : Option ℕ} → t ≡ u → a ≡ b → key ≡ k → r ≡ o → FindsAll t a key r → FindsAll u b k o
finds_at {t} {u} {a} {b} {key} {k} {r} {o} table array keys answer finds =
    subst (λ x. FindsAll u b k x) answer (subst (λ x. FindsAll u b x r) keys (subst (λ l. FindsAll u l key r) array (subst (λ x. FindsAll x a key r) table finds)))

pub inserts_at : {t u : Table} {a b : List ℕ} {key k : ℕ} {put answer : Put} (c : List ℕ) → t ≡ u → a ≡ b → key ≡ k → put ≡ answer → InsertsAll t key a c put → InsertsAll u k b c answer
inserts_at {t} {u} {a} {b} {key} {k} {put} {answer} c table array keys is inserts =
    subst (λ x. InsertsAll u k b c x) is (subst (λ x. InsertsAll u x b c put) keys (subst (λ l. InsertsAll u key l c put) array (subst (λ x. InsertsAll x key a c put) table inserts)))

pub removes_at : {t u : Table} {a b : List ℕ} {key k : ℕ} {was answer : Bool} (c : List ℕ) → t ≡ u → a ≡ b → key ≡ k → was ≡ answer → RemovesAll t key a c was → RemovesAll u k b c answer
removes_at {t} {u} {a} {b} {key} {k} {was} {answer} c table array keys is removes =
    subst (λ x. RemovesAll u k b c x) is (subst (λ x. RemovesAll u x b c was) keys (subst (λ l. RemovesAll u key l c was) array (subst (λ x. RemovesAll x key a c was) table removes)))

pub fits_at : {t u : Table} {n : ℕ} → t ≡ u → FitsTable t n → FitsTable u n
fits_at {n = n} table fits = subst (λ x. FitsTable x n) table fits
