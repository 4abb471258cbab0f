use Rattle.std.proofs.Common.{rules, ◌≡◌, [], ◌∷◌, ◌++◌, ◌∙◌, sym, ap, append_assoc, append-nil}
use Rattle.std.specs.FinMap.{put, is_sorted}
use Rattle.ipv4_prefix.specs.Prefix.{Prefix, prefix_cmp}
use Rattle.network_model.specs.{declared.route.Entry.Entry, Publication.Image, Publication.with_rows}
use Rattle.network_model.proofs.RowLaws.{with_rows-push, with_rows-sorted}
use Rattle.image_compiler.proofs.compile.Goals as goal

pub loop-prefix-init : goal.loop-prefix-init
loop-prefix-init g c = record { rows = c.into_iter-prefix-iterator.ensures.into_iter_gives ∙ c.rows-prefix-items.ensures.all; set = c.in_ok-image.ensures }

pub loop-prefix-preserved : goal.loop-prefix-preserved
loop-prefix-preserved g c =
    let row : Prefix × Entry = (c.in-Some.prefix, c.in-Some.entry) in
    record {
      rows = append_assoc c.loop-prefix.yielded (row ∷ []) c.next.new.self ∙ search (rules, c.in-Some.ensures, c.loop-prefix.invariant.rows);
      set = c.in_ok-set_row.ensures.ok
          ∙ ap (λ (image : Image). record image { rows = put prefix_cmp row.0 row.1 image.rows }) c.loop-prefix.invariant.set
          ∙ (λ i. record { generation = 0; rows = sym (with_rows-push c.loop-prefix.yielded row []) i });
    }

pub returns : goal.returns
returns g c =
    let all : c.loop-prefix.yielded ≡ c.args.table.now.table.control =
    sym (append-nil c.loop-prefix.yielded) ∙ ap (λ xs. c.loop-prefix.yielded ++ xs) (sym c.in-None.ensures.steps.0) ∙ c.loop-prefix.invariant.rows in
    let sorted = ap (is_sorted prefix_cmp) (sym c.rows-prefix-items.ensures.all) ∙ c.rows-prefix-items.ensures.sorted in
    c.loop-prefix.invariant.set
    ∙ (λ i. record { generation = 0; rows = with_rows (all i) [] })
    ∙ (λ i. record { generation = 0; rows = with_rows-sorted c.args.table.now.table.control sorted i })
