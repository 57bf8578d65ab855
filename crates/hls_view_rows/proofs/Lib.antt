mod TreeRows
