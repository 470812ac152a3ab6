-- What a node of each kind costs in a page: the bytes of its record.
use Rattle.store.specs.Stores.{Costs}
use Rattle.page.specs.Records.{head, keep, split, new, leaf, none, record_length}

abbrev pub byte_costs : Costs
byte_costs =
    record {
      of_head = record_length head;
      of_keep = record_length keep;
      of_split = record_length split;
      of_new = record_length new;
      of_leaf = record_length leaf;
      of_none = record_length none;
    }
