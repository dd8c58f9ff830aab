-- A record at the negative of its price, and else the same.
use Rattle.std.specs.Prelude.{neg_ℤ}
use Rattle.rules.specs.declared.Record.{Record}

unfoldable pub mirrored : Record → Record
mirrored r = record {
  id = r.id;
  suffix = r.suffix;
  parent = r.parent;
  kind = r.kind;
  status = r.status;
  account = r.account;
  series = r.series;
  side = r.side;
  quantity = r.quantity;
  price = neg_ℤ r.price;
  long = r.long;
  short = r.short;
  into = r.into;
  day = r.day;
}
