-- The calls that give orders: "sync, apply and recover also hand back the orders carried out."

pub data Save : Type 0 where
  sync : Save
  apply : Save
  recover : Save
