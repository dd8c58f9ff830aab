pub mod TradeBooked
