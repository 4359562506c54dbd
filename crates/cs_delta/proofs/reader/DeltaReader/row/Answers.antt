use Rattle.std.proofs.Common.{◌≡◌, ◌+◌, ◌∷◌, [], ◌++◌, ℕ, List, ap, sym, subst, ◌∙◌, arith, append_assoc}
use Rattle.std.proofs.lemmas.List.{length_push}
use Rattle.std.proofs.lemmas.Result.{err_from_is_err_and}
use Rattle.cs_schema.specs.declared.cells.Value.{Value}
use Rattle.cs_schema.specs.Values.{IsOfKind}
use Rattle.cs_schema.specs.CatalogData.{kind_at}
use Rattle.cs_codec.specs.ColumnText.{cell_bytes}
use Rattle.cs_delta.proofs.Sequences.{along, read_more, stands_next}
use Rattle.cs_delta.proofs.ItemTexts.{next_column, IsCellAt, column_after, one_cell, cells_along, cells_of}
use Rattle.cs_delta.proofs.reader.DeltaReader.row.Goals as goal

pub returns-in_err-rest-clause-refused : goal.returns-in_err-rest-clause-refused
returns-in_err-rest-clause-refused c = λ damaged row rest h.
    let q = err_from_is_err_and c.from_residual.result c.from_residual.ensures.1 in
    let i = c.loop-j.invariant in
    let C = c.args.self.now.catalog.now in
    let p = c.args.self.now.p in
    let wide = h.cells.0 in
    let count = i.count in
    let at : along next_column 0 i.row ≡ c.loop-j.j = column_after 0 i.row ∙ omega arith in
    let none = rw c.column_kind.ensures at c.in_err-rest.ensures.refused (let r1 = q.1 in let r2 = q.2 in cc) in
    stands_next cell_bytes next_column (IsCellAt C p) (λ j. one_cell (kind_at C p j)) 0 i.row c.loop-j.rest.now row rest i.so_far.all (cells_along C p row h.cells) (sym i.so_far.text ∙ h.text)
    (omega (arith, c.width-j-end.ensures.count))
    (λ x behind e k. none x behind (record { text = e; of_kind = (let Q : ℕ → Type 0 = λ n. IsOfKind (kind_at C p n) x in subst Q at k) }))

pub loop-j-preserved : goal.loop-j-preserved
loop-j-preserved c =
    let i = c.loop-j.invariant in
    let C = c.args.self.now.catalog.now in
    let p = c.args.self.now.p in
    let count = i.count in
    let at : c.loop-j.j ≡ along next_column 0 i.row = omega arith ∙ sym (column_after 0 i.row) in
    let found = rw c.column_kind.ensures at c.in_ok-rest.ensures.found in
    let Q : ℕ → Type 0 = λ n. IsOfKind (kind_at C p n) found.value in
    record {
      row = i.row ++ found.value ∷ [];
      added = found.added ∙ ap (λ (a : List Value). a ++ found.value ∷ []) i.added ∙ append_assoc c.args.cells.now i.row (found.value ∷ []);
      so_far = read_more cell_bytes next_column (IsCellAt C p) 0 c.args.bytes.now i.row c.loop-j.rest.now found.value c.in_ok-rest.rest.now i.so_far found.begins.text (subst Q at found.begins.of_kind);
      count = length_push i.row found.value ∙ ap (λ n. n + 1) i.count;
    }

pub returns-clause-found : goal.returns-clause-found
returns-clause-found c =
    let i = c.loop-j.invariant in
    let count = i.count in
    record {
      row = i.row;
      added = i.added;
      begins = record {
        text = i.so_far.text;
        cells = cells_of c.args.self.now.catalog.now c.args.self.now.p i.row (omega (arith, c.width-j-end.ensures.count)) i.so_far.all;
      };
    }
